use Rattle.std.proofs.Common.{refl}
use Rattle.dch_am.proofs.Short.{room_is, short_next}
use Rattle.dch_txbuf.proofs.Bodies.{body_is, fills_it, read_is, says, sized}
use Rattle.dch_txbuf.proofs.laws.payload_law.Goals as goal

pub returns-clause-short : goal.returns-clause-short
returns-clause-short c = short_next

pub returns-clause-room : goal.returns-clause-room
returns-clause-room c = room_is

pub returns-clause-indicators : goal.returns-clause-indicators
returns-clause-indicators c d b small is = (says d b small is).good

pub returns-clause-alone : goal.returns-clause-alone
returns-clause-alone c d b small is = rw (says d b small is).alone refl

pub returns-clause-full : goal.returns-clause-full
returns-clause-full c = fills_it

pub returns-clause-reads : goal.returns-clause-reads
returns-clause-reads c = read_is

pub returns-clause-size : goal.returns-clause-size
returns-clause-size c = sized

pub returns-clause-body : goal.returns-clause-body
returns-clause-body c = body_is
