use Rattle.dch_runlaw.proofs.Undamaged.{clear_carries_over}
use Rattle.dch_runlaw.proofs.undamaged_laws.undamaged_over_law.Goals as goal

pub returns : goal.returns
returns c = clear_carries_over
