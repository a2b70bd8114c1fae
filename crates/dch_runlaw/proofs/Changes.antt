-- What each move of a run in soft handover changes, and what it leaves as it was.
use Rattle.std.proofs.Common.{◌≡◌, ◌≢◌, ◌∙◌, ◌++◌, ℕ, List, Option, Some, None, refl, ap, sym, subst, inl, inr}
use Rattle.std.specs.Prelude.{◌==◌, if◌then◌else◌}
use Rattle.std.proofs.lemmas.Bool.{cases_eq, eq-eqb, ne_eqb}
use Rattle.dch_types.specs.declared.channel.Dir.TheVariants.{Up, Down}
use Rattle.dch_accept.specs.Plans.{Planned}
use Rattle.dch_combine.specs.Legs.{LegFrame}
use Rattle.dch_damage.specs.Damage.{iub_after}
use Rattle.dch_node.specs.Lines.{Line}
use Rattle.dch_node.specs.Values.{Output}
use Rattle.dch_linkcmd.specs.UeState.{BlockedCombination as UeBlocked, Event as UeEvent, OfferedUnit as UeOffered, State as UeState}
use Rattle.dch_linkcmd.specs.UeSteps.{Steps as UeSteps}
use Rattle.dch_linkcmd.specs.NodebState.{DownlinkDue, Event as NodeBEvent, IubFrame as IubFrameDown, State as NodeBState}
use Rattle.dch_linkcmd.specs.NodebSteps.{IsArrival, Steps as NodeBSteps}
use Rattle.dch_linkcmd.specs.RncState.{BlockedCombination as RncBlocked, Event as RncEvent, IubFrame as IubFrameUp, OfferedUnit as RncOffered, State as RncState, Tick as RncTicks}
use Rattle.dch_linkcmd.specs.RncSteps.{Steps as RncSteps}
use Rattle.dch_linkcmd.specs.Courses.{Course}
use Rattle.dch_linkcmd.specs.SoftEvents.{BlockedCombination, Damages, Event, Happens, OfferedUnit, damaged}
use Rattle.dch_linkcmd.specs.LinkLegs.{LegGoes, LegState, MayGoDown, ReceivesIub, Transmits, iub_from}
use Rattle.dch_linkcmd.specs.Within.{RncWithin}
use Rattle.dch_linkcmd.specs.LinkSoft.{SoftState, given, over, uplink_of, with_frame, with_leg}
use Rattle.dch_linkcmd.specs.SoftStages.{AtLeg, AtStage, GivesFrame, MayTake, RncGoes, TakesFrame, UeGoes, WhereOver}
use Rattle.dch_linkcmd.specs.soft_stage.Stage.{Stage}
use Rattle.dch_linkcmd.specs.soft_stage.Stage.TheVariants.{RncTick, IubDown, RadioDown, UeTick, RadioUp, IubUp, Combine}
use Rattle.dch_ue.proofs.Lasting.{GivesTheSame}
use Rattle.dch_runlaw.proofs.NodesEvents.{rnc_stays}

-- the steps of the nodes, and their lines
pub ue_step : (old new : SoftState) (event : UeEvent) → UeGoes old event new → UeSteps old.ue.state event new.ue.state new.ue.last
ue_step old new event goes =
    let same = ap (λ (s : SoftState). s.ue) goes.is ∙ goes.goes.is in
    subst (λ (c : Course UeState UeEvent). UeSteps old.ue.state event c.state c.last) (sym same) goes.goes.step

pub rnc_step : (old new : SoftState) (event : RncEvent) → RncGoes old event new → RncSteps old.rnc.state event new.rnc.state new.rnc.last
rnc_step old new event goes =
    let same = ap (λ (s : SoftState). s.rnc) goes.is ∙ goes.goes.is in
    subst (λ (c : Course RncState RncEvent). RncSteps old.rnc.state event c.state c.last) (sym same) goes.goes.step

pub leg_step : (old new : LegState) (event : NodeBEvent) (lines : List Line) → LegGoes old event new lines → NodeBSteps old.node_b.state event new.node_b.state new.node_b.last
leg_step old new event lines goes =
    let same = ap (λ (l : LegState). l.node_b) goes.is ∙ goes.goes.is in
    subst (λ (c : Course NodeBState NodeBEvent). NodeBSteps old.node_b.state event c.state c.last) (sym same) goes.goes.step

pub ue_lines : (old new : SoftState) (event : UeEvent) → UeGoes old event new → new.ue.lines ≡ old.ue.lines ++ new.ue.last.lines
ue_lines old new event goes =
    let same = ap (λ (s : SoftState). s.ue) goes.is ∙ goes.goes.is in
    ap (λ (c : Course UeState UeEvent). c.lines) same ∙ ap (λ (c : Course UeState UeEvent). old.ue.lines ++ c.last.lines) (sym same)

pub rnc_lines : (old new : SoftState) (event : RncEvent) → RncGoes old event new → new.rnc.lines ≡ old.rnc.lines ++ new.rnc.last.lines
rnc_lines old new event goes =
    let same = ap (λ (s : SoftState). s.rnc) goes.is ∙ goes.goes.is in
    ap (λ (c : Course RncState RncEvent). c.lines) same ∙ ap (λ (c : Course RncState RncEvent). old.rnc.lines ++ c.last.lines) (sym same)

-- nothing but one leg changed
pub record IsLegChange (k : ℕ) (leg : LegState) (old new : SoftState) : Type 0 where
  pub ue : new.ue ≡ old.ue
  pub rnc : new.rnc ≡ old.rnc
  pub count : new.count ≡ old.count
  pub cfn : new.cfn ≡ old.cfn
  pub frames : new.frames ≡ old.frames
  pub own : new.legs k ≡ leg
  pub others : (j : ℕ) → j ≢ k → new.legs j ≡ old.legs j

pub leg_change : (k : ℕ) (leg : LegState) (old new : SoftState) → new ≡ with_leg old k leg → IsLegChange k leg old new
leg_change k leg old new is = record {
  ue = ap (λ (s : SoftState). s.ue) is;
  rnc = ap (λ (s : SoftState). s.rnc) is;
  count = ap (λ (s : SoftState). s.count) is;
  cfn = ap (λ (s : SoftState). s.cfn) is;
  frames = ap (λ (s : SoftState). s.frames) is;
  own = ap (λ (s : SoftState). s.legs k) is ∙ here k;
  others = λ j apart. ap (λ (s : SoftState). s.legs j) is ∙ there j apart;
}
  where
    here : (k : ℕ) → (if k == k then leg else old.legs k) ≡ leg
    here k = rw (eq-eqb k k refl) refl

    there : (j : ℕ) → j ≢ k → (if j == k then leg else old.legs j) ≡ old.legs j
    there j apart = rw (ne_eqb j k apart) refl

-- nothing but the frames that were taken changed
pub record IsFrameChange (old new : SoftState) : Type 0 where
  pub ue : new.ue ≡ old.ue
  pub rnc : new.rnc ≡ old.rnc
  pub count : new.count ≡ old.count
  pub cfn : new.cfn ≡ old.cfn
  pub legs : new.legs ≡ old.legs

pub same_change : (old new : SoftState) → new ≡ old → IsFrameChange old new
same_change old new is = record {
  ue = ap (λ (s : SoftState). s.ue) is;
  rnc = ap (λ (s : SoftState). s.rnc) is;
  count = ap (λ (s : SoftState). s.count) is;
  cfn = ap (λ (s : SoftState). s.cfn) is;
  legs = ap (λ (s : SoftState). s.legs) is;
}

frame_change : (set leg : ℕ) (frame : LegFrame) (old new : SoftState) → new ≡ with_frame old set leg frame → IsFrameChange old new
frame_change set leg frame old new is = record {
  ue = ap (λ (s : SoftState). s.ue) is;
  rnc = ap (λ (s : SoftState). s.rnc) is;
  count = ap (λ (s : SoftState). s.count) is;
  cfn = ap (λ (s : SoftState). s.cfn) is;
  legs = ap (λ (s : SoftState). s.legs) is;
}

-- a frame of a leg may be taken
take_change : (cfn set leg : ℕ) (octets : Option (List ℕ)) (old new : SoftState) (lines : List Line) → MayTake cfn set leg octets old new lines → IsFrameChange old new
take_change cfn set leg None old new lines takes = same_change old new takes.0
take_change cfn set leg (Some octets) old new lines (inl taken) = frame_change set leg taken.frame old new taken.is
take_change cfn set leg (Some octets) old new lines (inr refused) = same_change old new refused.same

pub up_change : (started : Option ℕ) (set leg : ℕ) (old new : SoftState) (lines : List Line) → WhereOver started (λ cfn. TakesFrame cfn set leg) old new lines → IsFrameChange old new
up_change None set leg old new lines takes = same_change old new takes.0
up_change (Some cfn) set leg old new lines takes = take_change cfn set leg (iub_from (old.legs leg) set) old new lines takes

-- the network controller may have taken the combined frame of a set
pub record IsSetChange (set : ℕ) (old new : SoftState) : Type 0 where
  pub ue : new.ue ≡ old.ue
  pub rnc_active : new.rnc.state.planned ≡ old.rnc.state.planned
  pub count : new.count ≡ old.count
  pub cfn : new.cfn ≡ old.cfn
  pub legs : new.legs ≡ old.legs
  pub others : (s k : ℕ) → s ≢ set → new.frames s k ≡ old.frames s k

set_same : (set : ℕ) (old new : SoftState) → new ≡ old → IsSetChange set old new
set_same set old new is = record {
  ue = ap (λ (s : SoftState). s.ue) is;
  rnc_active = ap (λ (s : SoftState). s.rnc.state.planned) is;
  count = ap (λ (s : SoftState). s.count) is;
  cfn = ap (λ (s : SoftState). s.cfn) is;
  legs = ap (λ (s : SoftState). s.legs) is;
  others = λ s k apart. ap (λ (soft : SoftState). soft.frames s k) is;
}

set_taken : (set : ℕ) (octets : List ℕ) (old new : SoftState) → RncGoes (given old set) (IubFrameUp set octets) new → IsSetChange set old new
set_taken set octets old new goes = record {
  ue = ap (λ (s : SoftState). s.ue) goes.is;
  rnc_active = rnc_stays old.rnc.state (IubFrameUp set octets) new.rnc.state new.rnc.last tt (rnc_step (given old set) new (IubFrameUp set octets) goes);
  count = ap (λ (s : SoftState). s.count) goes.is;
  cfn = ap (λ (s : SoftState). s.cfn) goes.is;
  legs = ap (λ (s : SoftState). s.legs) goes.is;
  others = λ s k apart. ap (λ (soft : SoftState). soft.frames s k) goes.is ∙ there s k apart;
}
  where
    there : (s k : ℕ) → s ≢ set → (if s == set then None else old.frames s k) ≡ old.frames s k
    there s k apart = rw (ne_eqb s set apart) refl

pub set_change : (started : Option ℕ) (set : ℕ) (old new : SoftState) (lines : List Line) → WhereOver started (λ cfn. GivesFrame cfn set) old new lines → IsSetChange set old new
set_change None set old new lines gives = set_same set old new gives.0
set_change (Some cfn) set old new lines (inl none) = set_same set old new none.stays.0
set_change (Some cfn) set old new lines (inr frame) = set_taken set frame.octets old new frame.comes

-- what the uplink of leg k knows of two states is the same
pub record Stays (k : ℕ) (old new : SoftState) : Type 0 where
  pub count : new.count ≡ old.count
  pub cfn : new.cfn ≡ old.cfn
  pub rnc_active : new.rnc.state.planned ≡ old.rnc.state.planned
  pub ue_active : new.ue.state.planned ≡ old.ue.state.planned
  pub ue_cfn : new.ue.state.cfn ≡ old.ue.state.cfn
  pub ue_layer : GivesTheSame old.ue.state.layer new.ue.state.layer
  pub node_b_active : (new.legs k).node_b.state.planned ≡ (old.legs k).node_b.state.planned
  pub node_b_cfn : (new.legs k).node_b.state.cfn ≡ (old.legs k).node_b.state.cfn
  pub node_b_frames : (new.legs k).node_b.state.frames ≡ (old.legs k).node_b.state.frames

-- the terminal and leg k are the same
same_ends : (k : ℕ) (old new : SoftState) → new.count ≡ old.count → new.cfn ≡ old.cfn → new.rnc.state.planned ≡ old.rnc.state.planned → new.ue ≡ old.ue → new.legs k ≡ old.legs k → Stays k old new
same_ends k old new count cfn active ue leg = record {
  count = count;
  cfn = cfn;
  rnc_active = active;
  ue_active = ap (λ (c : Course UeState UeEvent). c.state.planned) ue;
  ue_cfn = ap (λ (c : Course UeState UeEvent). c.state.cfn) ue;
  ue_layer = record { given = λ j. ap (λ (c : Course UeState UeEvent). c.state.layer.given j) ue; running = ap (λ (c : Course UeState UeEvent). c.state.layer.running) ue };
  node_b_active = ap (λ (l : LegState). l.node_b.state.planned) leg;
  node_b_cfn = ap (λ (l : LegState). l.node_b.state.cfn) leg;
  node_b_frames = ap (λ (l : LegState). l.node_b.state.frames) leg;
}

pub frame_stays : (k : ℕ) (old new : SoftState) → IsFrameChange old new → Stays k old new
frame_stays k old new c = same_ends k old new c.count c.cfn (ap (λ (r : Course RncState RncEvent). r.state.planned) c.rnc) c.ue (ap (λ (legs : ℕ → LegState). legs k) c.legs)

pub set_stays : (k set : ℕ) (old new : SoftState) → IsSetChange set old new → Stays k old new
set_stays k set old new c = same_ends k old new c.count c.cfn c.rnc_active c.ue (ap (λ (legs : ℕ → LegState). legs k) c.legs)

pub other_leg_stays : (k leg : ℕ) (state : LegState) (old new : SoftState) → k ≢ leg → IsLegChange leg state old new → Stays k old new
other_leg_stays k leg state old new apart c = same_ends k old new c.count c.cfn (ap (λ (r : Course RncState RncEvent). r.state.planned) c.rnc) c.ue (c.others k apart)

pub rnc_goes_stays : (k : ℕ) (event : RncEvent) (old new : SoftState) → RncWithin event → RncGoes old event new → Stays k old new
rnc_goes_stays k event old new within goes =
    same_ends k old new (ap (λ (s : SoftState). s.count) goes.is) (ap (λ (s : SoftState). s.cfn) goes.is)
    (rnc_stays old.rnc.state event new.rnc.state new.rnc.last within (rnc_step old new event goes)) (ap (λ (s : SoftState). s.ue) goes.is) (ap (λ (s : SoftState). s.legs k) goes.is)

-- the Node B of a leg takes a downlink Iub frame, or sends its downlink radio frame
record KeepsUplink (old new : NodeBState) : Type 0 where
  active : new.planned ≡ old.planned
  cfn : new.cfn ≡ old.cfn
  frames : new.frames ≡ old.frames

arrival_keeps : (planned : Planned) (old : NodeBState) (set : ℕ) (octets : List ℕ) (new : NodeBState) (output : Output) → IsArrival planned old set octets new output → KeepsUplink old new
arrival_keeps planned old set octets new output (inl kept) = record { active = ap (λ (s : NodeBState). s.planned) kept.state; cfn = ap (λ (s : NodeBState). s.cfn) kept.state; frames = ap (λ (s : NodeBState). s.frames) kept.state }
arrival_keeps planned old set octets new output (inr refused) = record { active = ap (λ (s : NodeBState). s.planned) refused.state; cfn = ap (λ (s : NodeBState). s.cfn) refused.state; frames = ap (λ (s : NodeBState). s.frames) refused.state }

down_keeps : (set : ℕ) (octets : Option (List ℕ)) (old new : LegState) (lines : List Line) → MayGoDown set octets old new lines → KeepsUplink old.node_b.state new.node_b.state
down_keeps set None old new lines goes = record { active = ap (λ (l : LegState). l.node_b.state.planned) goes.0; cfn = ap (λ (l : LegState). l.node_b.state.cfn) goes.0; frames = ap (λ (l : LegState). l.node_b.state.frames) goes.0 }
down_keeps set (Some octets) old new lines goes =
    arrival_keeps old.node_b.state.planned old.node_b.state set octets new.node_b.state new.node_b.last (leg_step old new (IubFrameDown set octets) lines goes)

transmit_keeps : (old new : LegState) (lines : List Line) → Transmits old new lines → KeepsUplink old.node_b.state new.node_b.state
transmit_keeps old new lines goes =
    let step : NodeBSteps old.node_b.state DownlinkDue new.node_b.state new.node_b.last = leg_step old new DownlinkDue lines goes in
    record { active = ap (λ (s : NodeBState). s.planned) step.state; cfn = ap (λ (s : NodeBState). s.cfn) step.state; frames = ap (λ (s : NodeBState). s.frames) step.state }

own_leg_stays : (k : ℕ) (state : LegState) (old new : SoftState) → IsLegChange k state old new → KeepsUplink (old.legs k).node_b.state state.node_b.state → Stays k old new
own_leg_stays k state old new c keeps = record {
  count = c.count;
  cfn = c.cfn;
  rnc_active = ap (λ (r : Course RncState RncEvent). r.state.planned) c.rnc;
  ue_active = ap (λ (u : Course UeState UeEvent). u.state.planned) c.ue;
  ue_cfn = ap (λ (u : Course UeState UeEvent). u.state.cfn) c.ue;
  ue_layer = record { given = λ j. ap (λ (u : Course UeState UeEvent). u.state.layer.given j) c.ue; running = ap (λ (u : Course UeState UeEvent). u.state.layer.running) c.ue };
  node_b_active = ap (λ (l : LegState). l.node_b.state.planned) c.own ∙ keeps.active;
  node_b_cfn = ap (λ (l : LegState). l.node_b.state.cfn) c.own ∙ keeps.cfn;
  node_b_frames = ap (λ (l : LegState). l.node_b.state.frames) c.own ∙ keeps.frames;
}

leg_stays : (k leg : ℕ) (state : LegState) (old new : SoftState) → IsLegChange leg state old new → KeepsUplink (old.legs leg).node_b.state state.node_b.state → Stays k old new
leg_stays k leg state old new c keeps = elim (cases_eq k leg) [
  | inl own ↦ subst (λ n. Stays n old new) (sym own) (own_leg_stays leg state old new c keeps)
  | inr other ↦ other_leg_stays k leg state old new other c
]

pub iub_down_stays : (k leg set : ℕ) (sent : Option (List ℕ)) (old new : SoftState) (lines : List Line) → AtLeg leg (ReceivesIub set sent) old new lines → Stays k old new
iub_down_stays k leg set sent old new lines at =
    leg_stays k leg at.leg old new (leg_change leg at.leg old new at.is) (down_keeps set (iub_after (old.legs leg).damage Down set sent) (old.legs leg) at.leg lines at.does)

pub radio_down_stays : (k leg : ℕ) (old new : SoftState) (lines : List Line) → AtLeg leg Transmits old new lines → Stays k old new
radio_down_stays k leg old new lines at = leg_stays k leg at.leg old new (leg_change leg at.leg old new at.is) (transmit_keeps (old.legs leg) at.leg lines at.does)

-- what happens between two radio frames
ue_stays : (k : ℕ) (event : UeEvent) (old new : SoftState) → UeGoes old event new → new.ue.state.planned ≡ old.ue.state.planned → new.ue.state.cfn ≡ old.ue.state.cfn → GivesTheSame old.ue.state.layer new.ue.state.layer → Stays k old new
ue_stays k event old new goes active cfn layer = record {
  count = ap (λ (s : SoftState). s.count) goes.is;
  cfn = ap (λ (s : SoftState). s.cfn) goes.is;
  rnc_active = ap (λ (s : SoftState). s.rnc.state.planned) goes.is;
  ue_active = active;
  ue_cfn = cfn;
  ue_layer = layer;
  node_b_active = ap (λ (s : SoftState). (s.legs k).node_b.state.planned) goes.is;
  node_b_cfn = ap (λ (s : SoftState). (s.legs k).node_b.state.cfn) goes.is;
  node_b_frames = ap (λ (s : SoftState). (s.legs k).node_b.state.frames) goes.is;
}

damage_stays : (k leg : ℕ) (state : LegState) (old new : SoftState) → state.node_b ≡ (old.legs leg).node_b → new ≡ with_leg old leg state → Stays k old new
damage_stays k leg state old new same is = leg_stays k leg state old new (leg_change leg state old new is) (record {
  active = ap (λ (c : Course NodeBState NodeBEvent). c.state.planned) same;
  cfn = ap (λ (c : Course NodeBState NodeBEvent). c.state.cfn) same;
  frames = ap (λ (c : Course NodeBState NodeBEvent). c.state.frames) same;
})

pub between_stays : (k : ℕ) (old : SoftState) (event : Event) (new : SoftState) (lines : List Line) → Happens old event new lines → Stays k old new
between_stays k old (OfferedUnit Up b octets bits) new lines happens =
    let step : UeSteps old.ue.state (UeOffered b octets bits) new.ue.state new.ue.last = ue_step old new (UeOffered b octets bits) happens.0 in
    ue_stays k (UeOffered b octets bits) old new happens.0 (ap (λ (s : UeState). s.planned) step.state) (ap (λ (s : UeState). s.cfn) step.state)
    (record { given = λ j. ap (λ (s : UeState). s.layer.given j) step.state; running = ap (λ (s : UeState). s.layer.running) step.state })
between_stays k old (OfferedUnit Down b octets bits) new lines happens = rnc_goes_stays k (RncOffered b octets bits) old new tt happens.0
between_stays k old (BlockedCombination Up c on) new lines happens =
    let step : UeSteps old.ue.state (UeBlocked c on) new.ue.state new.ue.last = ue_step old new (UeBlocked c on) happens.0 in
    ue_stays k (UeBlocked c on) old new happens.0 (ap (λ (s : UeState). s.planned) step.0) (ap (λ (s : UeState). s.cfn) step.0)
    (record { given = λ j. ap (λ (s : UeState). s.layer.given j) step.0; running = ap (λ (s : UeState). s.layer.running) step.0 })
between_stays k old (BlockedCombination Down c on) new lines happens = rnc_goes_stays k (RncBlocked c on) old new tt happens.0
between_stays k old (Damages leg damage) new lines happens = damage_stays k leg (damaged (old.legs leg) damage) old new refl happens.0

-- a stage leaves how many legs there are, and the configuration
pub stage_steady : (stage : Stage) (old new : SoftState) (lines : List Line) → AtStage stage old new lines → (new.count ≡ old.count) × (new.rnc.state.planned ≡ old.rnc.state.planned)
stage_steady RncTick old new lines passes = let r = rnc_goes_stays 0 RncTicks old new tt passes.0 in (r.count, r.rnc_active)
stage_steady (IubDown leg set) old new lines passes = (ap (λ (s : SoftState). s.count) passes.is, ap (λ (s : SoftState). s.rnc.state.planned) passes.is)
stage_steady (RadioDown leg) old new lines passes = (ap (λ (s : SoftState). s.count) passes.is, ap (λ (s : SoftState). s.rnc.state.planned) passes.is)
stage_steady UeTick old new lines passes = (
  ap (λ (s : SoftState). s.count) passes.ticks.0.is ∙ ap (λ (s : SoftState). s.count) passes.hears.comes.is,
  ap (λ (s : SoftState). s.rnc.state.planned) passes.ticks.0.is ∙ ap (λ (s : SoftState). s.rnc.state.planned) passes.hears.comes.is,
)
stage_steady (RadioUp leg) old new lines passes = (ap (λ (s : SoftState). s.count) passes.is, ap (λ (s : SoftState). s.rnc.state.planned) passes.is)
stage_steady (IubUp set leg) old new lines passes = let c = up_change (over (uplink_of old) set old.cfn) set leg old new lines passes in (c.count, ap (λ (r : Course RncState RncEvent). r.state.planned) c.rnc)
stage_steady (Combine set) old new lines passes = let c = set_change (over (uplink_of old) set old.cfn) set old new lines passes in (c.count, c.rnc_active)
