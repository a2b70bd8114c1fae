-- The configuration of each node, and its CFN, over a radio frame and over what happens between two of them.
use Rattle.std.proofs.Common.{◌≡◌, ◌≤◌, ◌+◌, ◌∙◌, ℕ, zero, suc, List, Option, Some, None, arith, ap, subst, ⊎_elim}
use Rattle.dch_types.specs.declared.channel.Dir.TheVariants.{Up, Down}
use Rattle.dch_accept.specs.Plans.{Planned}
use Rattle.dch_node.specs.Lines.{Line}
use Rattle.dch_layer2.specs.Layers.{Layer}
use Rattle.dch_damage.specs.Damage.{iub_after, radio_after}
use Rattle.dch_linkcmd.specs.UeState.{BlockedCombination as UeBlocked, DownlinkFrame, Event as UeEvent, OfferedUnit as UeOffered, State as UeState, Tick as UeTicks}
use Rattle.dch_linkcmd.specs.NodebState.{Event as NodeBEvent, State as NodeBState}
use Rattle.dch_linkcmd.specs.NodebSteps.{IsKeptFrame, IsRefusedFrame}
use Rattle.dch_linkcmd.specs.RncState.{BlockedCombination as RncBlocked, Event as RncEvent, IubFrame as IubFrameUp, OfferedUnit as RncOffered, State as RncState, Tick as RncTicks}
use Rattle.dch_linkcmd.specs.Courses.{Course}
use Rattle.dch_linkcmd.specs.Events.{BlockedCombination, Damages, Event as LinkEvent, Happens, OfferedUnit}
use Rattle.dch_linkcmd.specs.LinkLink.{LinkState}
use Rattle.dch_linkcmd.specs.LinkStages.{RncGoes, UeGoes}
use Rattle.dch_linkcmd.specs.Within.{RncWithin, UeWithin}
use Rattle.dch_runlaw.specs.Frames.{IsFrame, MayArrive, MayBeTaken, Taken}
use Rattle.dch_runlaw.specs.Runs.{Between, Event, Frame, Steps}
use Rattle.dch_runlaw.proofs.Keeping.{but_rnc, but_ue, rnc_step, ue_step}
use Rattle.dch_runlaw.proofs.NodesEvents.{rnc_stays, ue_stays}

-- each node has a configuration
pub record AreFor (planned : Planned) (link : LinkState) : Type 0 where
  pub ue : link.ue.state.planned ≡ planned
  pub node_b : link.node_b.state.planned ≡ planned
  pub rnc : link.rnc.state.planned ≡ planned

-- an Iub frame leaves the configuration and the CFN of the Node B
arrives_same : (s : ℕ) (o : Option (List ℕ)) (old new : NodeBState) (lines : List Line) → MayArrive s o old new lines → (new.planned ≡ old.planned) × (new.cfn ≡ old.cfn)
arrives_same s None old new lines m = (ap (λ (x : NodeBState). x.planned) m.0, ap (λ (x : NodeBState). x.cfn) m.0)
arrives_same s (Some octets) old new lines m = ⊎_elim
    (λ (k : IsKeptFrame old.planned old s octets new m.output). (ap (λ (x : NodeBState). x.planned) k.state, ap (λ (x : NodeBState). x.cfn) k.state))
    (λ (r : IsRefusedFrame old.planned old s octets new m.output). (ap (λ (x : NodeBState). x.planned) r.state, ap (λ (x : NodeBState). x.cfn) r.state))
    m.step

fed_same : (old new : LinkState) (lines : List Line) (f : IsFrame old new lines) (s : ℕ) → s ≤ 8 → ((f.fed s).planned ≡ old.node_b.state.planned) × ((f.fed s).cfn ≡ old.node_b.state.cfn)
fed_same old new lines f zero l = (ap (λ (x : NodeBState). x.planned) f.fed_first, ap (λ (x : NodeBState). x.cfn) f.fed_first)
fed_same old new lines f (suc s) l =
    let next : s + 1 ≡ suc s = omega arith in
    let one = arrives_same s (iub_after old.damage Down s (f.rnc_output.iub s)) (f.fed s) (f.fed (s + 1)) (f.fed_lines s) (f.feeds s (omega (arith, l))) in
    let all = fed_same old new lines f s (omega (arith, l)) in
    subst (λ k. ((f.fed k).planned ≡ old.node_b.state.planned) × ((f.fed k).cfn ≡ old.node_b.state.cfn)) next (one.0 ∙ all.0, one.1 ∙ all.1)

-- so does the downlink radio frame, and the uplink radio frame leaves the configuration
pub left_planned : (old new : LinkState) (lines : List Line) (f : IsFrame old new lines) → f.node_b.planned ≡ old.node_b.state.planned
left_planned old new lines f = ap (λ (x : NodeBState). x.planned) f.down.state ∙ (fed_same old new lines f 8 (omega arith)).0

pub left_cfn : (old new : LinkState) (lines : List Line) (f : IsFrame old new lines) → f.node_b.cfn ≡ old.node_b.state.cfn
left_cfn old new lines f = ap (λ (x : NodeBState). x.cfn) f.down.state ∙ (fed_same old new lines f 8 (omega arith)).1

-- the network controller
taken_planned : (planned : Planned) (s : ℕ) (o : Option (List ℕ)) (near : Layer) (old new : RncState) (taken : Taken) (lines : List Line) → MayBeTaken planned s o near old new taken lines → new.planned ≡ old.planned
taken_planned planned s None near old new taken lines m = ap (λ (x : RncState). x.planned) m.0
taken_planned planned s (Some octets) near old new taken lines m = rnc_stays old (IubFrameUp s octets) new m.output tt m.step

pub rncs_planned : (old new : LinkState) (lines : List Line) (f : IsFrame old new lines) (s : ℕ) → s ≤ 8 → (f.rncs s).planned ≡ old.rnc.state.planned
rncs_planned old new lines f zero l = ap (λ (x : RncState). x.planned) f.rnc_first ∙ rnc_stays old.rnc.state RncTicks f.rnc f.rnc_output tt f.rnc_ticks
rncs_planned old new lines f (suc s) l =
    let next : s + 1 ≡ suc s = omega arith in
    subst (λ k. (f.rncs k).planned ≡ old.rnc.state.planned) next
    (taken_planned old.rnc.state.planned s (iub_after old.damage Up s (f.up_output.iub s)) new.ue.state.layer (f.rncs s) (f.rncs (s + 1)) (f.taken s) (f.rnc_lines s) (f.takes s (omega (arith, l))) ∙ rncs_planned old new lines f s (omega (arith, l)))

-- over a radio frame
pub frame_for : (planned : Planned) (old new : LinkState) (lines : List Line) → IsFrame old new lines → AreFor planned old → AreFor planned new
frame_for planned old new lines f are = record {
  ue = ue_stays f.kept UeTicks new.ue.state f.ue_output tt f.ue_ticks ∙ ue_stays old.ue.state (DownlinkFrame (radio_after old.damage Down f.down_output.sent)) f.kept f.kept_output tt f.keeps ∙ are.ue;
  node_b = ap (λ (x : NodeBState). x.planned) f.up.state ∙ left_planned old new lines f ∙ are.node_b;
  rnc = ap (λ (x : RncState). x.planned) f.rnc_last ∙ rncs_planned old new lines f 8 (omega arith) ∙ are.rnc;
}

-- and over an event
ue_for : (planned : Planned) (old new : LinkState) (event : UeEvent) → UeWithin event → UeGoes old event new → AreFor planned old → AreFor planned new
ue_for planned old new event within goes are = record {
  ue = ue_stays old.ue.state event new.ue.state new.ue.last within (ue_step old new event goes) ∙ are.ue;
  node_b = ap (λ (c : Course NodeBState NodeBEvent). c.state.planned) (but_ue old new event goes).node_b ∙ are.node_b;
  rnc = ap (λ (c : Course RncState RncEvent). c.state.planned) (but_ue old new event goes).rnc ∙ are.rnc;
}

rnc_for : (planned : Planned) (old new : LinkState) (event : RncEvent) → RncWithin event → RncGoes old event new → AreFor planned old → AreFor planned new
rnc_for planned old new event within goes are = record {
  ue = ap (λ (c : Course UeState UeEvent). c.state.planned) (but_rnc old new event goes).ue ∙ are.ue;
  node_b = ap (λ (c : Course NodeBState NodeBEvent). c.state.planned) (but_rnc old new event goes).node_b ∙ are.node_b;
  rnc = rnc_stays old.rnc.state event new.rnc.state new.rnc.last within (rnc_step old new event goes) ∙ are.rnc;
}

between_for : (planned : Planned) (old : LinkState) (event : LinkEvent) (new : LinkState) (lines : List Line) → Happens old event new lines → AreFor planned old → AreFor planned new
between_for planned old (OfferedUnit Up b octets bits) new lines h are = ue_for planned old new (UeOffered b octets bits) tt h.0 are
between_for planned old (OfferedUnit Down b octets bits) new lines h are = rnc_for planned old new (RncOffered b octets bits) tt h.0 are
between_for planned old (BlockedCombination Up c on) new lines h are = ue_for planned old new (UeBlocked c on) tt h.0 are
between_for planned old (BlockedCombination Down c on) new lines h are = rnc_for planned old new (RncBlocked c on) tt h.0 are
between_for planned old (Damages d) new lines h are = record {
  ue = ap (λ (x : LinkState). x.ue.state.planned) h.0 ∙ are.ue;
  node_b = ap (λ (x : LinkState). x.node_b.state.planned) h.0 ∙ are.node_b;
  rnc = ap (λ (x : LinkState). x.rnc.state.planned) h.0 ∙ are.rnc;
}

pub event_for : (planned : Planned) (old : LinkState) (event : Event) (new : LinkState) (lines : List Line) → Steps old event new lines → AreFor planned old → AreFor planned new
event_for planned old (Between event) new lines step are = between_for planned old event new lines step are
event_for planned old Frame new lines step are = frame_for planned old new lines step.frame are
