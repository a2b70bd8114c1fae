use Rattle.std.proofs.Common.{arith}
use Rattle.dch_script.specs.Adding.{AddsLines, ShowsLine}
use Rattle.dch_node.specs.Standing.{Tells}
use Rattle.dch_node.proofs.Traces.{says_history, says_step}
use Rattle.dch_steptext.specs.Reports.{HasRoomFor}
use Rattle.dch_steptext.proofs.Reporting.{few_adds, few_more, few_most}
use Rattle.dch_nodeb.specs.Standing.{Represents, Shows, event_of}
use Rattle.dch_nodeb.specs.State.{opened_state}
use Rattle.dch_nodeb.specs.Steps.{Steps}
use Rattle.dch_nodeb.proofs.node.NodeB.step.Goals as goal

room : (c : goal.After-step_with) → HasRoomFor c.args.report.now 4000000
room c = omega (arith, c.requires.room)

pub returns-clause-step : goal.returns-clause-step
returns-clause-step c = λ before state active stands.
    let planned = c.args.accepted.now in
    says_step Steps (Represents planned) Shows state (event_of planned c.args.event) c.step_with.new.self
    (Tells ShowsLine c.args.report.now c.step_with.new.user) (AddsLines c.args.report.now.text c.step_with.new.user.text)
    (few_adds 4000000 c.args.report.now c.step_with.new.user (room c) c.step_with.ensures.few) (c.step_with.ensures.step before state active stands)

pub returns-clause-history : goal.returns-clause-history
returns-clause-history c = λ began before first events lines active was.
    let planned = c.args.accepted.now in
    says_history Steps (Represents planned) Shows (opened_state began first) events lines (event_of planned c.args.event) c.step_with.new.self
    (Tells ShowsLine c.args.report.now c.step_with.new.user) (AddsLines c.args.report.now.text c.step_with.new.user.text)
    (few_adds 4000000 c.args.report.now c.step_with.new.user (room c) c.step_with.ensures.few) (c.step_with.ensures.history began before first events lines active was)

pub returns-clause-few : goal.returns-clause-few
returns-clause-few c = few_more 4000000 c.args.report.now c.step_with.new.user (room c) c.step_with.ensures.few

pub returns-clause-most : goal.returns-clause-most
returns-clause-most c = few_most 4000000 c.args.report.now c.step_with.new.user (room c) c.step_with.ensures.few
