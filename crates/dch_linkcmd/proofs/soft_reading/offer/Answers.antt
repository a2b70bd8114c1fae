use Rattle.dch_linkcmd.proofs.Senders.{sends_to}
use Rattle.dch_linkcmd.proofs.soft_reading.offer.Goals as goal

pub returns-clause-comes : goal.returns-clause-comes
returns-clause-comes c = λ legs. sends_to c.args.accepted.now c.args.dir c.args.bearer c.requires.unit.0
