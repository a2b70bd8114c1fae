use Rattle.dch_runlaw.proofs.EndEvents.{run_hands_up}
use Rattle.dch_runlaw.proofs.soft_nodes_laws.soft_nodes_law.Goals as goal

pub returns : goal.returns
returns c = run_hands_up
