use Rattle.dch_runlaw.proofs.Telling.{run_told}
use Rattle.dch_runlaw.proofs.soft_nodes_laws.soft_told_law.Goals as goal

pub returns : goal.returns
returns c = run_told
