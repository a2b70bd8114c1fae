use Rattle.dch_runlaw.proofs.NodesEvents.{tm_down, tm_up}
use Rattle.dch_runlaw.proofs.NodesParts.{tm_down_two, tm_up_two}
use Rattle.dch_runlaw.proofs.nodes_laws.tm_nodes_law.Goals as goal

pub returns-clause-up : goal.returns-clause-up
returns-clause-up c = tm_up

pub returns-clause-down : goal.returns-clause-down
returns-clause-down c = tm_down

pub returns-clause-up_in_two : goal.returns-clause-up_in_two
returns-clause-up_in_two c = tm_up_two

pub returns-clause-down_in_two : goal.returns-clause-down_in_two
returns-clause-down_in_two c = tm_down_two
