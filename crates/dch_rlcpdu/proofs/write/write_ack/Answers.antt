use Rattle.std.proofs.Common.{arith, refl, [], ◌∷◌}
use Rattle.dch_rlcpdu.proofs.Backs.{length-status, status_back}
use Rattle.dch_rlcpdu.proofs.write.write_ack.Goals as goal

pub put_status-requires-clause-place : goal.put_status-requires-clause-place
put_status-requires-clause-place c = omega (arith, length-status c.args.pairs.now c.args.lsn, c.requires.fit)

pub returns-clause-text : goal.returns-clause-text
returns-clause-text c = c.put_status.ensures (0 ∷ []) refl c.start.ensures

pub returns-clause-back : goal.returns-clause-back
returns-clause-back c = status_back c.put_status.new.out c.args.pairs.now c.args.lsn (c.put_status.ensures (0 ∷ []) refl c.start.ensures) (omega (arith, c.requires.fit)) c.requires.pairs c.requires.number
