use Rattle.dch_trellis.proofs.Apart.{apart, attained}
use Rattle.dch_trellis.proofs.laws.free_distance_law.Goals as goal

pub returns-clause-apart : goal.returns-clause-apart
returns-clause-apart c = apart

pub returns-clause-attained : goal.returns-clause-attained
returns-clause-attained c = attained
