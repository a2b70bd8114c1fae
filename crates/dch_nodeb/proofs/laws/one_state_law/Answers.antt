use Rattle.dch_node.specs.Values.{no_output}
use Rattle.dch_nodeb.specs.State.{opened_state}
use Rattle.dch_nodeb.proofs.Same.{arrival_answer, same_state, step_same, trace_same}
use Rattle.dch_nodeb.proofs.laws.one_state_law.Goals as goal

pub returns-clause-step : goal.returns-clause-step
returns-clause-step c = step_same

pub returns-clause-history : goal.returns-clause-history
returns-clause-history c planned first events state other last more lines rest a b =
    trace_same (opened_state planned first) (opened_state planned first) state other no_output no_output last more events lines rest (same_state (opened_state planned first)) a b

pub returns-clause-arrival : goal.returns-clause-arrival
returns-clause-arrival c = arrival_answer
