use Rattle.dch_linkcmd.proofs.Senders.{sends_to}
use Rattle.dch_linkcmd.proofs.reading.offer.Goals as goal

pub returns-clause-comes : goal.returns-clause-comes
returns-clause-comes c = sends_to c.args.accepted.now c.args.dir c.args.bearer c.requires.unit.0
