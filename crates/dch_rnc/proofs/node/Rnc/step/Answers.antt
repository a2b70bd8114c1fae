use Rattle.dch_accept.specs.Reports.{step_bytes}
use Rattle.dch_script.specs.Adding.{AddsLines, ShowsLine}
use Rattle.dch_node.specs.Standing.{Tells}
use Rattle.dch_node.proofs.Traces.{says_history, says_step}
use Rattle.dch_steptext.proofs.Reporting.{few_adds, few_more, few_most}
use Rattle.dch_rnc.specs.Standing.{Represents, Shows, event_of}
use Rattle.dch_rnc.specs.State.{opened_state}
use Rattle.dch_rnc.specs.Steps.{Steps}
use Rattle.dch_rnc.proofs.node.Rnc.step.Goals as goal

pub returns-clause-step : goal.returns-clause-step
returns-clause-step c = λ before state active stands.
    let planned = c.args.accepted.now in
    says_step Steps (Represents planned) Shows state (event_of planned c.args.event) c.step_with.new.self
    (Tells ShowsLine c.args.report.now c.step_with.new.user) (AddsLines c.args.report.now.text c.step_with.new.user.text)
    (few_adds (step_bytes planned.config) c.args.report.now c.step_with.new.user c.requires.room c.step_with.ensures.few) (c.step_with.ensures.step before state active stands)

pub returns-clause-history : goal.returns-clause-history
returns-clause-history c = λ began before first events lines active was.
    let planned = c.args.accepted.now in
    says_history Steps (Represents planned) Shows (opened_state began first) events lines (event_of planned c.args.event) c.step_with.new.self
    (Tells ShowsLine c.args.report.now c.step_with.new.user) (AddsLines c.args.report.now.text c.step_with.new.user.text)
    (few_adds (step_bytes planned.config) c.args.report.now c.step_with.new.user c.requires.room c.step_with.ensures.few) (c.step_with.ensures.history began before first events lines active was)

pub returns-clause-few : goal.returns-clause-few
returns-clause-few c = few_more (step_bytes c.args.accepted.now.config) c.args.report.now c.step_with.new.user c.requires.room c.step_with.ensures.few

pub returns-clause-most : goal.returns-clause-most
returns-clause-most c = few_most (step_bytes c.args.accepted.now.config) c.args.report.now c.step_with.new.user c.requires.room c.step_with.ensures.few
