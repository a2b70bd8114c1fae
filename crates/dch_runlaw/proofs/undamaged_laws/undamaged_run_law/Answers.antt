use Rattle.dch_runlaw.proofs.Undamaged.{clear_carries}
use Rattle.dch_runlaw.proofs.undamaged_laws.undamaged_run_law.Goals as goal

pub returns : goal.returns
returns c = clear_carries
