use Rattle.dch_runlaw.proofs.NodesEvents.{nodes_whole_history}
use Rattle.dch_runlaw.proofs.NodesParts.{two_whole}
use Rattle.dch_runlaw.proofs.nodes_laws.whole_nodes_law.Goals as goal

pub returns-clause-one : goal.returns-clause-one
returns-clause-one c = nodes_whole_history

pub returns-clause-two : goal.returns-clause-two
returns-clause-two c = two_whole
