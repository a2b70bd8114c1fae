use Rattle.dch_ue.specs.State.{opened_state}
use Rattle.dch_ue.proofs.OneOutput.{same_state, step_outputs, step_states, trace_one}
use Rattle.dch_ue.proofs.laws.one_output_law.Goals as goal

pub returns-clause-step : goal.returns-clause-step
returns-clause-step c old new older newer event output more planned same x y =
    (step_states old new older newer event output more planned same x y, step_outputs old new older newer event output more planned same x y)

pub returns-clause-history : goal.returns-clause-history
returns-clause-history c planned first events state other last more lines rest good brings a b =
    trace_one (opened_state planned first) (opened_state planned first) state other events last more lines rest good brings (same_state (opened_state planned first)) a b
