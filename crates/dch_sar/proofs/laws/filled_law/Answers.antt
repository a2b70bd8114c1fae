use Rattle.dch_sar.proofs.Joined.{filled-next}
use Rattle.dch_sar.proofs.laws.filled_law.Goals as goal

pub returns : goal.returns
returns c = filled-next
