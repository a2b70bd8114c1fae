use Rattle.dch_rlcum.proofs.Handed.{known_handed}
use Rattle.dch_rlcum.proofs.laws.known_units_law.Goals as goal

pub returns : goal.returns
returns c = known_handed
