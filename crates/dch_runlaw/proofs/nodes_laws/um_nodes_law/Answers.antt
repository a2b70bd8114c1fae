use Rattle.dch_runlaw.proofs.NodesEvents.{um_down, um_up}
use Rattle.dch_runlaw.proofs.NodesParts.{um_down_two, um_up_two}
use Rattle.dch_runlaw.proofs.nodes_laws.um_nodes_law.Goals as goal

pub returns-clause-up : goal.returns-clause-up
returns-clause-up c = um_up

pub returns-clause-down : goal.returns-clause-down
returns-clause-down c = um_down

pub returns-clause-up_in_two : goal.returns-clause-up_in_two
returns-clause-up_in_two c = um_up_two

pub returns-clause-down_in_two : goal.returns-clause-down_in_two
returns-clause-down_in_two c = um_down_two
