-- A step of one of three nodes that run together leads to states that say the same.
use Rattle.std.proofs.Common.{◌≡◌, ◌∙◌, List, sym, subst}
use Rattle.dch_accept.specs.Plans.{IsPlanned}
use Rattle.dch_node.specs.Lines.{Line}
use Rattle.dch_node.specs.Outputs.{IsSameOutput}
use Rattle.dch_node.specs.Values.{Output}
use Rattle.dch_ue.specs.Same.{BringsPlanned as UeBrings, IsSameState as IsSameUe}
use Rattle.dch_ue.specs.State.{Event as UeEvent, State as UeState}
use Rattle.dch_ue.specs.Steps.{Steps as UeSteps}
use Rattle.dch_ue.proofs.OneOutput.{one_output as ue_one}
use Rattle.dch_nodeb.specs.Same.{BringsPlanned as NodeBBrings, IsSameState as IsSameNodeB}
use Rattle.dch_nodeb.specs.State.{Event as NodeBEvent, State as NodeBState}
use Rattle.dch_nodeb.specs.Steps.{Steps as NodeBSteps}
use Rattle.dch_nodeb.proofs.OneOutput.{one_output as node_b_one}
use Rattle.dch_rnc.specs.Same.{IsSameState as IsSameRnc}
use Rattle.dch_rnc.specs.State.{Event as RncEvent}
use Rattle.dch_rnc.specs.Steps.{Steps as RncSteps}
use Rattle.dch_rnc.proofs.OneOutput.{one_output as rnc_one}
use Rattle.dch_link.specs.Courses.{Course, Goes, course_after}
use Rattle.dch_link.specs.Link.{LinkState}
use Rattle.dch_link.specs.Same.{ArePlanned, IsSameCourse, IsSameLink}
use Rattle.dch_link.specs.Stages.{NodeBGoes, NodeBReports, RncGoes, RncReports, UeGoes, UeReports}

-- states and lines that are the same behind, in configurations that can be accepted
pub record IsOnePass (new newer : LinkState) (lines rest : List Line) : Type 0 where
  pub planned : ArePlanned new
  pub same : IsSameLink new newer
  pub lines_are : rest ≡ lines

pub one_pass : (new newer : LinkState) (lines rest : List Line) → IsOnePass new newer lines rest → ArePlanned new × IsSameLink new newer × (rest ≡ lines)
one_pass new newer lines rest pass = (pass.planned, pass.same, pass.lines_are)

-- equal states
pub planned_as : (new next : LinkState) → new ≡ next → ArePlanned next → ArePlanned new
planned_as new next is planned = subst ArePlanned (sym is) planned

pub same_as : (new newer next later : LinkState) → new ≡ next → newer ≡ later → IsSameLink next later → IsSameLink new newer
same_as new newer next later a b same = subst (λ (l : LinkState). IsSameLink l newer) (sym a) (subst (λ (l : LinkState). IsSameLink next l) (sym b) same)

-- a node takes a step
course_same : {S E : Type 0} (Steps : S → E → S → Output → Type 0) (IsSame : S → S → Type 0) (old new older newer : Course S E) (event : E) (a : Goes Steps old event new) (b : Goes Steps older event newer)
    → IsSame a.state b.state → IsSameOutput a.output b.output → IsSameCourse IsSame new newer
course_same {S} {E} Steps IsSame old new older newer event a b states outputs =
    subst (λ (c : Course S E). IsSameCourse IsSame c newer) (sym a.is)
    (subst (λ (c : Course S E). IsSameCourse IsSame (course_after old event a.state a.output) c) (sym b.is) (record { state = states; last = outputs }))

-- the terminal
pub ue_planned : (old new : LinkState) (event : UeEvent) → UeBrings event → ArePlanned old → UeGoes old event new → ArePlanned new
ue_planned old new event brings planned a =
    let now : IsPlanned a.goes.state.planned = ue_one.keeps old.ue.state a.goes.state event a.goes.output planned.ue brings a.goes.step in
    planned_as new _ a.is (record { ue = subst (λ (c : Course UeState UeEvent). IsPlanned c.state.planned) (sym a.goes.is) now; node_b = planned.node_b })

pub ue_same : (old new older newer : LinkState) (event : UeEvent) → ArePlanned old → IsSameLink old older → UeGoes old event new → UeGoes older event newer → IsSameLink new newer
ue_same old new older newer event planned same a b =
    let course : IsSameCourse IsSameUe a.ue b.ue = course_same UeSteps IsSameUe old.ue a.ue older.ue b.ue event a.goes b.goes
    (ue_one.states old.ue.state a.goes.state older.ue.state b.goes.state event a.goes.output b.goes.output planned.ue same.ue.state a.goes.step b.goes.step)
    (ue_one.outputs old.ue.state a.goes.state older.ue.state b.goes.state event a.goes.output b.goes.output planned.ue same.ue.state a.goes.step b.goes.step) in
    same_as new newer _ _ a.is b.is (record { ue = course; node_b = same.node_b; rnc = same.rnc; damage = same.damage })

pub ue_pass : (old new older newer : LinkState) (event : UeEvent) (lines rest : List Line) → UeBrings event → ArePlanned old → IsSameLink old older → UeReports old event new lines → UeReports older event newer rest
    → IsOnePass new newer lines rest
ue_pass old new older newer event lines rest brings planned same a b =
    let behind : IsSameLink new newer = ue_same old new older newer event planned same a.0 b.0 in
    record { planned = ue_planned old new event brings planned a.0; same = behind; lines_are = b.1 ∙ behind.ue.last.lines ∙ sym a.1 }

-- the Node B
pub node_b_planned : (old new : LinkState) (event : NodeBEvent) → NodeBBrings event → ArePlanned old → NodeBGoes old event new → ArePlanned new
node_b_planned old new event brings planned a =
    let now : IsPlanned a.goes.state.planned = node_b_one.keeps old.node_b.state a.goes.state event a.goes.output planned.node_b brings a.goes.step in
    planned_as new _ a.is (record { ue = planned.ue; node_b = subst (λ (c : Course NodeBState NodeBEvent). IsPlanned c.state.planned) (sym a.goes.is) now })

pub node_b_same : (old new older newer : LinkState) (event : NodeBEvent) → ArePlanned old → IsSameLink old older → NodeBGoes old event new → NodeBGoes older event newer → IsSameLink new newer
node_b_same old new older newer event planned same a b =
    let course : IsSameCourse IsSameNodeB a.node_b b.node_b = course_same NodeBSteps IsSameNodeB old.node_b a.node_b older.node_b b.node_b event a.goes b.goes
    (node_b_one.states old.node_b.state a.goes.state older.node_b.state b.goes.state event a.goes.output b.goes.output planned.node_b same.node_b.state a.goes.step b.goes.step)
    (node_b_one.outputs old.node_b.state a.goes.state older.node_b.state b.goes.state event a.goes.output b.goes.output planned.node_b same.node_b.state a.goes.step b.goes.step) in
    same_as new newer _ _ a.is b.is (record { ue = same.ue; node_b = course; rnc = same.rnc; damage = same.damage })

pub node_b_pass : (old new older newer : LinkState) (event : NodeBEvent) (lines rest : List Line) → NodeBBrings event → ArePlanned old → IsSameLink old older → NodeBReports old event new lines → NodeBReports older event newer rest
    → IsOnePass new newer lines rest
node_b_pass old new older newer event lines rest brings planned same a b =
    let behind : IsSameLink new newer = node_b_same old new older newer event planned same a.0 b.0 in
    record { planned = node_b_planned old new event brings planned a.0; same = behind; lines_are = b.1 ∙ behind.node_b.last.lines ∙ sym a.1 }

-- the network controller
pub rnc_planned : (old new : LinkState) (event : RncEvent) → ArePlanned old → RncGoes old event new → ArePlanned new
rnc_planned old new event planned a = planned_as new _ a.is (record { ue = planned.ue; node_b = planned.node_b })

pub rnc_same : (old new older newer : LinkState) (event : RncEvent) → IsSameLink old older → RncGoes old event new → RncGoes older event newer → IsSameLink new newer
rnc_same old new older newer event same a b =
    let course : IsSameCourse IsSameRnc a.rnc b.rnc = course_same RncSteps IsSameRnc old.rnc a.rnc older.rnc b.rnc event a.goes b.goes
    (rnc_one.states old.rnc.state a.goes.state older.rnc.state b.goes.state event a.goes.output b.goes.output tt same.rnc.state a.goes.step b.goes.step)
    (rnc_one.outputs old.rnc.state a.goes.state older.rnc.state b.goes.state event a.goes.output b.goes.output tt same.rnc.state a.goes.step b.goes.step) in
    same_as new newer _ _ a.is b.is (record { ue = same.ue; node_b = same.node_b; rnc = course; damage = same.damage })

pub rnc_pass : (old new older newer : LinkState) (event : RncEvent) (lines rest : List Line) → ArePlanned old → IsSameLink old older → RncReports old event new lines → RncReports older event newer rest
    → IsOnePass new newer lines rest
rnc_pass old new older newer event lines rest planned same a b =
    let behind : IsSameLink new newer = rnc_same old new older newer event same a.0 b.0 in
    record { planned = rnc_planned old new event planned a.0; same = behind; lines_are = b.1 ∙ behind.rnc.last.lines ∙ sym a.1 }
