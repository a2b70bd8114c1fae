use Rattle.dch_am.proofs.Restarting.{kept_is}
use Rattle.dch_am.proofs.laws.restarted_law.Goals as goal

pub returns-clause-kept : goal.returns-clause-kept
returns-clause-kept c s cut = kept_is s.accepted s.unsent s.bodies cut
