use Rattle.dch_runlaw.proofs.NodesEvents.{nodes_history}
use Rattle.dch_runlaw.proofs.NodesParts.{two_history}
use Rattle.dch_runlaw.proofs.nodes_laws.nodes_law.Goals as goal

pub returns-clause-one : goal.returns-clause-one
returns-clause-one c = nodes_history

pub returns-clause-two : goal.returns-clause-two
returns-clause-two c = two_history
