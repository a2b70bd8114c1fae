use Rattle.dch_runlaw.proofs.HonestOver.{silent_over, undamaged_over}
use Rattle.dch_runlaw.proofs.over_laws.link_over_law.Goals as goal

pub returns-clause-history : goal.returns-clause-history
returns-clause-history c = silent_over

pub returns-clause-whole : goal.returns-clause-whole
returns-clause-whole c = undamaged_over
