use Rattle.dch_accept.specs.Plans.{IsPlanned}
use Rattle.dch_node.specs.Values.{no_output}
use Rattle.dch_node.proofs.Outputs.{same_output, trace_same}
use Rattle.dch_nodeb.specs.Same.{BringsPlanned, IsSameState}
use Rattle.dch_nodeb.specs.State.{opened_state}
use Rattle.dch_nodeb.specs.Steps.{Steps}
use Rattle.dch_nodeb.proofs.Same.{same_state}
use Rattle.dch_nodeb.proofs.OneOutput.{departure_output, one_output, step_output}
use Rattle.dch_nodeb.proofs.laws.one_output_law.Goals as goal

pub returns-clause-departure : goal.returns-clause-departure
returns-clause-departure c = departure_output

pub returns-clause-step : goal.returns-clause-step
returns-clause-step c = step_output

pub returns-clause-history : goal.returns-clause-history
returns-clause-history c planned first events state other last more lines rest good brings a b =
    (trace_same Steps (λ state. IsPlanned state.planned) BringsPlanned IsSameState one_output (opened_state planned first) (opened_state planned first) state other no_output no_output last more events lines rest
    good brings (same_state (opened_state planned first)) (same_output no_output) a b).1
