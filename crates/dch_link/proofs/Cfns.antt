-- The CFN of the terminal over what happens at three nodes.
use Rattle.std.proofs.Common.{◌≡◌, ◌+◌, ◌%◌, ◌∙◌, ℕ, List, Option, Some, None, ap, sym}
use Rattle.dch_types.specs.declared.channel.Dir.TheVariants.{Up, Down}
use Rattle.dch_accept.specs.Plans.{Planned}
use Rattle.dch_node.specs.Lines.{Line}
use Rattle.dch_node.specs.Values.{Output}
use Rattle.dch_damage.specs.Damage.{iub_after}
use Rattle.dch_ue.specs.State.{BlockedCombination as UeBlocked, Change as UeChange, DownlinkFrame, Event as UeEvent, OfferedUnit as UeOffered, State as UeState, Tick as UeTicks}
use Rattle.dch_ue.specs.Steps.{Steps as UeSteps}
use Rattle.dch_nodeb.specs.State.{Event as NodeBEvent}
use Rattle.dch_rnc.specs.State.{Event as RncEvent}
use Rattle.dch_link.specs.Changing.{Changes}
use Rattle.dch_link.specs.Events.{BlockedCombination, Damages, Event, Happens, OfferedUnit}
use Rattle.dch_link.specs.Link.{LinkState}
use Rattle.dch_link.specs.Passing.{cfn_after}
use Rattle.dch_link.specs.Stages.{AtStage, MayGoDown, MayGoUp, NodeBGoes, RncGoes, UeGoes}
use Rattle.dch_link.specs.LinkNodes.{IsLinkOf, LeadsTo, Represents}
use Rattle.dch_link.specs.Values.{Nodes}
use Rattle.dch_link.specs.declared.stage.Stage.{Stage}
use Rattle.dch_link.specs.declared.stage.Stage.TheVariants.{RncTick, IubDown, RadioDown, UeTick, RadioUp, IubUp}

-- of a state of the nodes
abbrev cfn_of : LinkState → ℕ
cfn_of link = link.ue.state.cfn

-- in a step of the terminal
abbrev behind : UeEvent → ℕ → ℕ
behind (UeOffered b octets bits) cfn = cfn
behind (UeBlocked c on) cfn = cfn
behind (DownlinkFrame frame) cfn = cfn
behind UeTicks cfn = (cfn + 1) % 256
behind (UeChange second) cfn = cfn

ue_step : (old new : UeState) (event : UeEvent) (output : Output) → UeSteps old event new output → new.cfn ≡ behind event old.cfn
ue_step old new (UeOffered b octets bits) output step = ap (λ (s : UeState). s.cfn) step.state
ue_step old new (UeBlocked c on) output step = ap (λ (s : UeState). s.cfn) step.0
ue_step old new (DownlinkFrame frame) output step = ap (λ (s : UeState). s.cfn) step.0
ue_step old new UeTicks output step = ap (λ (s : UeState). s.cfn) step.state
ue_step old new (UeChange second) output step = ap (λ (s : UeState). s.cfn) step.state

ue_goes : (old new : LinkState) (event : UeEvent) → UeGoes old event new → cfn_of new ≡ behind event (cfn_of old)
ue_goes old new event goes = ap cfn_of goes.is ∙ ap (λ course. course.state.cfn) goes.goes.is ∙ ue_step old.ue.state goes.goes.state event goes.goes.output goes.goes.step

node_b_goes : (old new : LinkState) (event : NodeBEvent) → NodeBGoes old event new → cfn_of new ≡ cfn_of old
node_b_goes old new event goes = ap cfn_of goes.is

rnc_goes : (old new : LinkState) (event : RncEvent) → RncGoes old event new → cfn_of new ≡ cfn_of old
rnc_goes old new event goes = ap cfn_of goes.is

-- between two radio frames
event_cfn : (event : Event) (old new : LinkState) (lines : List Line) → Happens old event new lines → cfn_of new ≡ cfn_of old
event_cfn (OfferedUnit Up bearer octets bits) old new lines happens = ue_goes old new (UeOffered bearer octets bits) happens.0
event_cfn (OfferedUnit Down bearer octets bits) old new lines happens = rnc_goes old new _ happens.0
event_cfn (BlockedCombination Up combination on) old new lines happens = ue_goes old new (UeBlocked combination on) happens.0
event_cfn (BlockedCombination Down combination on) old new lines happens = rnc_goes old new _ happens.0
event_cfn (Damages damage) old new lines happens = ap cfn_of happens.0

down_cfn : (set : ℕ) (octets : Option (List ℕ)) (old new : LinkState) (lines : List Line) → MayGoDown set octets old new lines → cfn_of new ≡ cfn_of old
down_cfn set None old new lines goes = ap cfn_of goes.0
down_cfn set (Some octets) old new lines goes = node_b_goes old new _ goes.0

up_cfn : (set : ℕ) (octets : Option (List ℕ)) (old new : LinkState) (lines : List Line) → MayGoUp set octets old new lines → cfn_of new ≡ cfn_of old
up_cfn set None old new lines goes = ap cfn_of goes.0
up_cfn set (Some octets) old new lines goes = rnc_goes old new _ goes.comes

-- at a stage
stage_cfn : (stage : Stage) (old new : LinkState) (lines : List Line) → AtStage stage old new lines → cfn_of new ≡ cfn_after stage (cfn_of old)
stage_cfn RncTick old new lines passes = rnc_goes old new _ passes.0
stage_cfn (IubDown set) old new lines passes = down_cfn set (iub_after old.damage Down set (old.rnc.last.iub set)) old new lines passes
stage_cfn RadioDown old new lines passes = node_b_goes old new _ passes.0
stage_cfn UeTick old new lines passes = ue_goes passes.mid new UeTicks passes.ticks ∙ ap (λ n. (n + 1) % 256) (ue_goes old passes.mid (DownlinkFrame _) passes.comes)
stage_cfn RadioUp old new lines passes = node_b_goes old new _ passes.0
stage_cfn (IubUp set) old new lines passes = up_cfn set (iub_after old.damage Up set (old.node_b.last.iub set)) old new lines passes

-- in a change
change_cfn : (second : Planned) (old new : LinkState) → Changes second old new → cfn_of new ≡ cfn_of old
change_cfn second old new changes = ue_goes changes.node_b_new new (UeChange second) changes.ue_changes ∙ node_b_goes changes.rnc_new changes.node_b_new _ changes.node_b_changes ∙ rnc_goes old changes.rnc_new _ changes.rnc_changes

-- and that of the terminal itself
pub happen_cfn : (planned : Planned) (event : Event) (old new : Nodes) (Says : List Line → Type 0) → IsLinkOf planned old
    → ((began : Planned) (first : ℕ) (link : LinkState) → Represents began planned first link old → LeadsTo began planned first (Happens link event) new Says) → new.ue.cfn ≡ old.ue.cfn
happen_cfn planned event old new Says is leads =
    let led = leads is.began is.first is.link is.stands in
    led.stands.ue.stands.at.cfn ∙ event_cfn event is.link led.next led.lines led.does ∙ sym is.stands.ue.stands.at.cfn

pub pass_cfn : (planned : Planned) (stage : Stage) (old new : Nodes) (Says : List Line → Type 0) → IsLinkOf planned old
    → ((began : Planned) (first : ℕ) (link : LinkState) → Represents began planned first link old → LeadsTo began planned first (AtStage stage link) new Says) → new.ue.cfn ≡ cfn_after stage old.ue.cfn
pass_cfn planned stage old new Says is leads =
    let led = leads is.began is.first is.link is.stands in
    led.stands.ue.stands.at.cfn ∙ stage_cfn stage is.link led.next led.lines led.does ∙ ap (cfn_after stage) (sym is.stands.ue.stands.at.cfn)

pub changed_cfn : (began before second : Planned) (first : ℕ) (link next : LinkState) (old new : Nodes) → Represents began before first link old → Changes second link next → Represents began second first next new → new.ue.cfn ≡ old.ue.cfn
changed_cfn began before second first link next old new was changes is = is.ue.stands.at.cfn ∙ change_cfn second link next changes ∙ sym was.ue.stands.at.cfn
