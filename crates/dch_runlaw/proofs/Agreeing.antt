-- In each run in soft handover the terminal, the network controller and the Node B of a leg agree on the configuration and the CFN.
use Rattle.std.proofs.Common.{◌≡◌, ◌<◌, ◌+◌, ◌%◌, ◌∙◌, ℕ, List, [], ◌∷◌, length, Bool, true, false, Option, Some, arith, refl, sym, ap, subst, inl, inr}
use Rattle.std.specs.Prelude.{if◌then◌else◌, nat_lt}
use Rattle.std.proofs.lemmas.Bool.{cases_order}
use Rattle.dch_types.specs.declared.channel.Dir.TheVariants.{Up, Down}
use Rattle.dch_types.specs.declared.channel.Side.{Side}
use Rattle.dch_types.specs.Parts.{channel_at, format_number}
use Rattle.dch_types.specs.Timing.{starts}
use Rattle.dch_accept.specs.Plans.{IsPlanned, Planned}
use Rattle.dch_damage.specs.Damage.{radio_after}
use Rattle.dch_node.specs.Lines.{Line}
use Rattle.dch_node.specs.Values.{Radio}
use Rattle.dch_layer2.specs.Layers.{Given, Layer, ticks}
use Rattle.dch_layer2.specs.Starting.{IsStart}
use Rattle.dch_linkcmd.specs.UeState.{BlockedCombination as UeBlocked, DownlinkFrame, Event as UeEvent, OfferedUnit as UeOffered, State as UeState, Tick as UeTicks}
use Rattle.dch_linkcmd.specs.UeSteps.{IsRadioFrame, IsTick as IsUeTick, Steps as UeSteps, has_read}
use Rattle.dch_linkcmd.specs.NodebState.{State as NodeBState, UplinkFrame}
use Rattle.dch_linkcmd.specs.NodebSteps.{IsReception, Steps as NodeBSteps}
use Rattle.dch_linkcmd.proofs.Steady.{starts-eighth}
use Rattle.dch_linkcmd.specs.RncState.{Event as RncEvent, State as RncState, Tick as RncTicks}
use Rattle.dch_linkcmd.specs.Courses.{Course}
use Rattle.dch_linkcmd.specs.SoftEvents.{BlockedCombination, Damages, Event, Happens, OfferedUnit}
use Rattle.dch_linkcmd.specs.LinkLegs.{LegState, ReceivesRadio}
use Rattle.dch_linkcmd.specs.SoftPassing.{next_stage}
use Rattle.dch_linkcmd.specs.LinkSoft.{SoftState, framed, over, uplink_of}
use Rattle.dch_linkcmd.specs.SoftStages.{AtLeg, AtStage, UeGoes, UeReceives}
use Rattle.dch_linkcmd.specs.soft_stage.Stage.{Stage}
use Rattle.dch_linkcmd.specs.soft_stage.Stage.TheVariants.{RncTick, IubDown, RadioDown, UeTick, RadioUp, IubUp, Combine}
use Rattle.dch_ue.proofs.Lasting.{GivesTheSame, reads_below-on}
use Rattle.dch_runlaw.proofs.ClearKept.{start_format}
use Rattle.dch_runlaw.proofs.SizedRuns.{UeStands, ue_stands}
use Rattle.dch_runlaw.proofs.SizedStarts.{opened_stands}
use Rattle.dch_runlaw.specs.SoftRuns.{Between, HappensBetween, Move, Next, Passes, Point, Runs, behind, opened_point}
use Rattle.dch_runlaw.proofs.Changes.{IsLegChange, Stays, between_stays, frame_stays, iub_down_stays, leg_change, leg_step, other_leg_stays, radio_down_stays, rnc_goes_stays, set_change, set_stays, ue_step, up_change}
use Rattle.dch_runlaw.proofs.Phases.{Before, InPoint, Middle, Over, Phase, Sent, Taken, exit_of, lt_no, lt_yes, next_holds, phase_of}

abbrev pub up_side : Planned → Side
up_side planned = planned.config.uplink.side

abbrev pub frames_of : Planned → ℕ → ℕ
frames_of planned i = (channel_at (up_side planned) i).frames

-- the CFNs of the terminal and of the leg's Node B, given that of the radio frame that is on
abbrev pub next_cfn : ℕ → ℕ
next_cfn cfn = (cfn + 1) % 256

abbrev pub ue_cfn_in : Phase → ℕ → ℕ
ue_cfn_in Before cfn = cfn
ue_cfn_in Middle cfn = next_cfn cfn
ue_cfn_in Sent cfn = next_cfn cfn
ue_cfn_in Taken cfn = next_cfn cfn
ue_cfn_in Over cfn = next_cfn cfn

abbrev pub node_b_cfn_in : Phase → ℕ → ℕ
node_b_cfn_in Before cfn = cfn
node_b_cfn_in Middle cfn = cfn
node_b_cfn_in Sent cfn = next_cfn cfn
node_b_cfn_in Taken cfn = next_cfn cfn
node_b_cfn_in Over cfn = next_cfn cfn

-- the formats of the channels whose TTI goes on are those of the combination that runs
abbrev pub InRunning : Planned → UeState → Type 0
InRunning planned ue = (j : ℕ) → j < length (up_side planned).channels → starts (frames_of planned j) ue.cfn ≡ false → (ue.layer.given j).format ≡ format_number (up_side planned) ue.layer.running j

-- the uplink radio frame of a CFN is on the air, in the combination that runs
pub record OnAir (planned : Planned) (cfn : ℕ) (ue : Course UeState UeEvent) : Type 0 where
  pub radio : Radio
  pub sent : ue.last.sent ≡ Some radio
  pub written : IsRadioFrame planned cfn ue.state.layer radio
  pub listed : ue.state.layer.running < length (up_side planned).combinations
  pub formats : (j : ℕ) → j < length (up_side planned).channels → (ue.state.layer.given j).format ≡ format_number (up_side planned) ue.state.layer.running j

abbrev pub AirIn : Planned → Phase → SoftState → Type 0
AirIn planned Before soft = Unit {0}
AirIn planned Middle soft = OnAir planned soft.cfn soft.ue
AirIn planned Sent soft = Unit {0}
AirIn planned Taken soft = Unit {0}
AirIn planned Over soft = Unit {0}

pub record Agree (planned : Planned) (legs k : ℕ) (phase : Phase) (soft : SoftState) : Type 0 where
  pub count : soft.count ≡ legs
  pub rnc_active : soft.rnc.state.planned ≡ planned
  pub ue : UeStands planned soft.ue.state
  pub node_b_active : (soft.legs k).node_b.state.planned ≡ planned
  pub ue_cfn : soft.ue.state.cfn ≡ ue_cfn_in phase soft.cfn
  pub node_b_cfn : (soft.legs k).node_b.state.cfn ≡ node_b_cfn_in phase soft.cfn
  pub formats : InRunning planned soft.ue.state
  pub air : AirIn planned phase soft

formats_stay : (planned : Planned) (old new : UeState) → new.cfn ≡ old.cfn → GivesTheSame old.layer new.layer → InRunning planned old → InRunning planned new
formats_stay planned old new cfn layer before j inside off =
    ap (λ (g : Given). g.format) (layer.given j) ∙ before j inside (ap (starts (frames_of planned j)) (sym cfn) ∙ off) ∙ ap (λ c. format_number (up_side planned) c j) (sym layer.running)

-- what leaves the uplink leaves this, from a phase to one with the same CFNs
agree_stays : (planned : Planned) (legs k : ℕ) (p q : Phase) (old new : SoftState) → Stays k old new → UeStands planned new.ue.state → AirIn planned q new → ((c : ℕ) → ue_cfn_in p c ≡ ue_cfn_in q c) → ((c : ℕ) → node_b_cfn_in p c ≡ node_b_cfn_in q c)
    → Agree planned legs k p old → Agree planned legs k q new
agree_stays planned legs k p q old new r stands air same_ue same_node_b a = record {
  count = r.count ∙ a.count;
  rnc_active = r.rnc_active ∙ a.rnc_active;
  ue = stands;
  node_b_active = r.node_b_active ∙ a.node_b_active;
  ue_cfn = r.ue_cfn ∙ a.ue_cfn ∙ same_ue old.cfn ∙ ap (ue_cfn_in q) (sym r.cfn);
  node_b_cfn = r.node_b_cfn ∙ a.node_b_cfn ∙ same_node_b old.cfn ∙ ap (node_b_cfn_in q) (sym r.cfn);
  formats = formats_stay planned old.ue.state new.ue.state r.ue_cfn r.ue_layer a.formats;
  air = air;
}

-- phases in which the uplink radio frame has come to the leg
abbrev pub IsLate : Phase → Type 0
IsLate Before = ⊥
IsLate Middle = ⊥
IsLate Sent = Unit {0}
IsLate Taken = Unit {0}
IsLate Over = Unit {0}

agree_late : (planned : Planned) (legs k : ℕ) (p q : Phase) (old new : SoftState) → IsLate p → IsLate q → Stays k old new → UeStands planned new.ue.state → Agree planned legs k p old → Agree planned legs k q new
agree_late planned legs k p q old new is are r stands a = agree_stays planned legs k p q old new r stands (none q are) (ue_same p q is are) (node_b_same p q is are) a
  where
    none : (q : Phase) → IsLate q → AirIn planned q new
    none Before are = absurd are
    none Middle are = absurd are
    none Sent are = tt
    none Taken are = tt
    none Over are = tt

    ue_late : (p : Phase) → IsLate p → (c : ℕ) → ue_cfn_in p c ≡ next_cfn c
    ue_late Before is c = absurd is
    ue_late Middle is c = absurd is
    ue_late Sent is c = refl
    ue_late Taken is c = refl
    ue_late Over is c = refl

    node_b_late : (p : Phase) → IsLate p → (c : ℕ) → node_b_cfn_in p c ≡ next_cfn c
    node_b_late Before is c = absurd is
    node_b_late Middle is c = absurd is
    node_b_late Sent is c = refl
    node_b_late Taken is c = refl
    node_b_late Over is c = refl

    ue_same : (p q : Phase) → IsLate p → IsLate q → (c : ℕ) → ue_cfn_in p c ≡ ue_cfn_in q c
    ue_same p q is are c = ue_late p is c ∙ sym (ue_late q are c)

    node_b_same : (p q : Phase) → IsLate p → IsLate q → (c : ℕ) → node_b_cfn_in p c ≡ node_b_cfn_in q c
    node_b_same p q is are c = node_b_late p is c ∙ sym (node_b_late q are c)

-- 10 ms pass at the terminal
pub record Ticks (planned : Planned) (old new : SoftState) : Type 0 where
  pub count : new.count ≡ old.count
  pub cfn : new.cfn ≡ old.cfn
  pub rnc_active : new.rnc.state.planned ≡ old.rnc.state.planned
  pub legs : new.legs ≡ old.legs
  pub stands : UeStands planned new.ue.state
  pub ue_cfn : new.ue.state.cfn ≡ next_cfn old.cfn
  pub mid : Layer
  pub given : (i : ℕ) → mid.given i ≡ old.ue.state.layer.given i
  pub running : mid.running ≡ old.ue.state.layer.running
  pub start : IsStart planned.config Up old.cfn mid new.ue.state.layer
  pub radio : Radio
  pub sent : new.ue.last.sent ≡ Some radio
  pub written : IsRadioFrame planned old.cfn new.ue.state.layer radio

pub ticks_in : (planned : Planned) (legs k : ℕ) (old new : SoftState) (lines : List Line) → IsPlanned planned → UeReceives old new lines → Agree planned legs k Before old → Ticks planned old new
ticks_in planned legs k old new lines good passes a = record {
  count = ap (λ (s : SoftState). s.count) goes.is ∙ ap (λ (s : SoftState). s.count) comes.is;
  cfn = ap (λ (s : SoftState). s.cfn) goes.is ∙ ap (λ (s : SoftState). s.cfn) comes.is;
  rnc_active = ap (λ (s : SoftState). s.rnc.state.planned) goes.is ∙ ap (λ (s : SoftState). s.rnc.state.planned) comes.is;
  legs = ap (λ (s : SoftState). s.legs) goes.is ∙ ap (λ (s : SoftState). s.legs) comes.is;
  stands = ue_stands planned mid.ue.state UeTicks new.ue.state new.ue.last good tt (ue_step mid new UeTicks goes)
      (ue_stands planned old.ue.state (DownlinkFrame passes.hears.heard) mid.ue.state mid.ue.last good tt (ue_step old mid (DownlinkFrame passes.hears.heard) comes) a.ue);
  ue_cfn = ap (λ (s : UeState). s.cfn) tick.state ∙ ap next_cfn mid_cfn;
  mid = (has_read planned new.ue.state.readings mid.ue.state.layer).layer;
  given = λ i. keeps.given i ∙ ap (λ (s : UeState). s.layer.given i) kept.0;
  running = keeps.running ∙ ap (λ (s : UeState). s.layer.running) kept.0;
  start = subst (λ n. IsStart planned.config Up n (has_read planned new.ue.state.readings mid.ue.state.layer).layer new.ue.state.layer) mid_cfn tick.start;
  radio = tick.radio;
  sent = tick.sent;
  written = subst (λ n. IsRadioFrame planned n new.ue.state.layer tick.radio) mid_cfn tick.written;
}
  where
    mid : SoftState
    mid = passes.mid

    comes : UeGoes old (DownlinkFrame passes.hears.heard) mid
    comes = passes.hears.comes

    goes : UeGoes mid UeTicks new
    goes = passes.ticks.0

    kept : UeSteps old.ue.state (DownlinkFrame passes.hears.heard) mid.ue.state mid.ue.last
    kept = ue_step old mid (DownlinkFrame passes.hears.heard) comes

    mid_cfn : mid.ue.state.cfn ≡ old.cfn
    mid_cfn = ap (λ (s : UeState). s.cfn) kept.0 ∙ a.ue_cfn

    tick : IsUeTick planned mid.ue.state new.ue.state new.ue.last
    tick = subst (λ (p : Planned). IsUeTick p mid.ue.state new.ue.state new.ue.last) (ap (λ (s : UeState). s.planned) kept.0 ∙ a.ue.planned_is) (ue_step mid new UeTicks goes)

    keeps : GivesTheSame (ticks planned.config mid.ue.state.layer) (has_read planned new.ue.state.readings mid.ue.state.layer).layer
    keeps = reads_below-on planned.config Down new.ue.state.readings (length planned.config.downlink.side.channels) (ticks planned.config mid.ue.state.layer)

-- then all formats are those of the combination that runs
pub tick_formats : (planned : Planned) (legs k : ℕ) (old new : SoftState) → Ticks planned old new → Agree planned legs k Before old → (j : ℕ) → j < length (up_side planned).channels → (new.ue.state.layer.given j).format ≡ format_number (up_side planned) new.ue.state.layer.running j
tick_formats planned legs k old new t a j inside =
    start_format planned.config Up old.cfn t.mid new.ue.state.layer j t.start inside
    (λ off. ap (λ (g : Given). g.format) (t.given j) ∙ a.formats j inside (ap (starts (frames_of planned j)) a.ue_cfn ∙ off) ∙ ap (λ r. format_number (up_side planned) r j) (sym t.running))

agree_tick : (planned : Planned) (legs k : ℕ) (old new : SoftState) → Ticks planned old new → Agree planned legs k Before old → Agree planned legs k Middle new
agree_tick planned legs k old new t a = record {
  count = t.count ∙ a.count;
  rnc_active = t.rnc_active ∙ a.rnc_active;
  ue = t.stands;
  node_b_active = ap (λ (legs : ℕ → LegState). (legs k).node_b.state.planned) t.legs ∙ a.node_b_active;
  ue_cfn = t.ue_cfn ∙ ap next_cfn (sym t.cfn);
  node_b_cfn = ap (λ (legs : ℕ → LegState). (legs k).node_b.state.cfn) t.legs ∙ a.node_b_cfn ∙ sym t.cfn;
  formats = λ j inside off. tick_formats planned legs k old new t a j inside;
  air = record {
    radio = t.radio;
    sent = t.sent;
    written = subst (λ n. IsRadioFrame planned n new.ue.state.layer t.radio) (sym t.cfn) t.written;
    listed = t.start.best.candidate.there;
    formats = tick_formats planned legs k old new t a;
  };
}

-- the uplink radio frame comes to the Node B of leg k, if it does
pub record Receives (planned : Planned) (k : ℕ) (old new : SoftState) : Type 0 where
  pub leg : LegState
  pub change : IsLegChange k leg old new
  pub step : IsReception planned (old.legs k).node_b.state (radio_after (old.legs k).damage Up old.ue.last.sent) (new.legs k).node_b.state (new.legs k).node_b.last

pub receives_in : (planned : Planned) (legs k : ℕ) (old new : SoftState) (lines : List Line) → AtLeg k (ReceivesRadio old.ue.last.sent) old new lines → Agree planned legs k Middle old → Receives planned k old new
receives_in planned legs k old new lines at a =
    let radio : Option Radio = radio_after (old.legs k).damage Up old.ue.last.sent in
    let change : IsLegChange k at.leg old new = leg_change k at.leg old new at.is in
    let step : NodeBSteps (old.legs k).node_b.state (UplinkFrame radio) at.leg.node_b.state at.leg.node_b.last = leg_step (old.legs k) at.leg (UplinkFrame radio) lines at.does in
    let here : IsReception planned (old.legs k).node_b.state radio at.leg.node_b.state at.leg.node_b.last =
    subst (λ (p : Planned). IsReception p (old.legs k).node_b.state radio at.leg.node_b.state at.leg.node_b.last) a.node_b_active step in
    record {
      leg = at.leg;
      change = change;
      step = subst (λ (l : LegState). IsReception planned (old.legs k).node_b.state radio l.node_b.state l.node_b.last) (sym change.own) here;
    }

-- the terminal stays
same_stands : (planned : Planned) (old new : SoftState) → new.ue ≡ old.ue → UeStands planned old.ue.state → UeStands planned new.ue.state
same_stands planned old new same s = subst (λ (c : Course UeState UeEvent). UeStands planned c.state) (sym same) s

same_air : (planned : Planned) (old new : SoftState) → new.ue ≡ old.ue → new.cfn ≡ old.cfn → OnAir planned old.cfn old.ue → OnAir planned new.cfn new.ue
same_air planned old new ue cfn air = subst (λ (c : Course UeState UeEvent). OnAir planned new.cfn c) (sym ue) (subst (λ n. OnAir planned n old.ue) (sym cfn) air)

agree_radio : (planned : Planned) (legs k : ℕ) (old new : SoftState) → Receives planned k old new → Agree planned legs k Middle old → Agree planned legs k Sent new
agree_radio planned legs k old new r a = record {
  count = r.change.count ∙ a.count;
  rnc_active = ap (λ (c : Course RncState RncEvent). c.state.planned) r.change.rnc ∙ a.rnc_active;
  ue = same_stands planned old new r.change.ue a.ue;
  node_b_active = ap (λ (s : NodeBState). s.planned) r.step.state ∙ a.node_b_active;
  ue_cfn = ap (λ (c : Course UeState UeEvent). c.state.cfn) r.change.ue ∙ a.ue_cfn ∙ ap next_cfn (sym r.change.cfn);
  node_b_cfn = ap (λ (s : NodeBState). s.cfn) r.step.state ∙ ap next_cfn (a.node_b_cfn ∙ sym r.change.cfn);
  formats = subst (λ (c : Course UeState UeEvent). InRunning planned c.state) (sym r.change.ue) a.formats;
  air = tt;
}

-- in which phases the stages of the uplink begin and end
pub radio_early : (k set leg : ℕ) → leg < k → (phase_of k set (RadioUp leg) ≡ Middle) × (exit_of k set (RadioUp leg) ≡ Middle)
radio_early k set leg early = (rw (lt_no k leg (omega (arith, early))) refl, rw (lt_yes leg k early) refl)

pub radio_own : (k set leg : ℕ) → leg ≡ k → (phase_of k set (RadioUp leg) ≡ Middle) × (exit_of k set (RadioUp leg) ≡ Sent)
radio_own k set leg own = (rw (lt_no k leg (omega (arith, own))) refl, rw (lt_no leg k (omega (arith, own))) refl)

pub radio_late : (k set leg : ℕ) → k < leg → (phase_of k set (RadioUp leg) ≡ Sent) × (exit_of k set (RadioUp leg) ≡ Sent)
radio_late k set leg late = (rw (lt_yes k leg late) refl, rw (lt_no leg k (omega (arith, late))) refl)

late_phase : (a b c : Bool) → IsLate (if a then Sent else (if b then Over else (if c then Taken else Sent)))
late_phase true b c = tt
late_phase false true c = tt
late_phase false false true = tt
late_phase false false false = tt

late_exit : (a b c : Bool) → IsLate (if a then Sent else (if b then Over else (if c then Sent else Taken)))
late_exit true b c = tt
late_exit false true c = tt
late_exit false false true = tt
late_exit false false false = tt

late_set : (a b : Bool) → IsLate (if a then Sent else (if b then Over else Taken))
late_set true b = tt
late_set false true = tt
late_set false false = tt

late_over : (a : Bool) → IsLate (if a then Sent else Over)
late_over true = tt
late_over false = tt

pub iub_late : (k set s leg : ℕ) → IsLate (phase_of k set (IubUp s leg)) × IsLate (exit_of k set (IubUp s leg))
iub_late k set s leg = (late_phase (nat_lt s set) (nat_lt set s) (nat_lt k leg), late_exit (nat_lt s set) (nat_lt set s) (nat_lt leg k))

pub combine_late : (k set s : ℕ) → IsLate (phase_of k set (Combine s)) × IsLate (exit_of k set (Combine s))
combine_late k set s = (late_set (nat_lt s set) (nat_lt set s), late_over (nat_lt s set))

-- a stage
pub agree_stage : (planned : Planned) (legs k set : ℕ) (stage : Stage) (old new : SoftState) (lines : List Line) → IsPlanned planned → AtStage stage old new lines → Agree planned legs k (phase_of k set stage) old → Agree planned legs k (exit_of k set stage) new
agree_stage planned legs k set RncTick old new lines good passes a =
    agree_stays planned legs k Before Before old new (rnc_goes_stays k RncTicks old new tt passes.0) (same_stands planned old new (ap (λ (s : SoftState). s.ue) passes.0.is) a.ue) tt (λ c. refl) (λ c. refl) a
agree_stage planned legs k set (IubDown leg s) old new lines good passes a =
    agree_stays planned legs k Before Before old new (iub_down_stays k leg s (old.rnc.last.iub s) old new lines passes) (same_stands planned old new (ap (λ (s : SoftState). s.ue) passes.is) a.ue) tt (λ c. refl) (λ c. refl) a
agree_stage planned legs k set (RadioDown leg) old new lines good passes a =
    agree_stays planned legs k Before Before old new (radio_down_stays k leg old new lines passes) (same_stands planned old new (ap (λ (s : SoftState). s.ue) passes.is) a.ue) tt (λ c. refl) (λ c. refl) a
agree_stage planned legs k set UeTick old new lines good passes a = agree_tick planned legs k old new (ticks_in planned legs k old new lines good passes a) a
agree_stage planned legs k set (RadioUp leg) old new lines good passes a = elim (cases_order leg k) [
  | inl own ↦ (
      let is = radio_own k set leg own in
      let before : Agree planned legs k Middle old = subst (λ (p : Phase). Agree planned legs k p old) is.0 a in
      let at : AtLeg k (ReceivesRadio old.ue.last.sent) old new lines = subst (λ n. AtLeg n (ReceivesRadio old.ue.last.sent) old new lines) own passes in
      subst (λ (p : Phase). Agree planned legs k p new) (sym is.1) (agree_radio planned legs k old new (receives_in planned legs k old new lines at before) before))
  | inr other ↦ (
      let change : IsLegChange leg passes.leg old new = leg_change leg passes.leg old new passes.is in
      let stands : UeStands planned new.ue.state = same_stands planned old new change.ue a.ue in
      elim other [
        | inl early ↦ (
            let is = radio_early k set leg early in
            let before : Agree planned legs k Middle old = subst (λ (p : Phase). Agree planned legs k p old) is.0 a in
            subst (λ (p : Phase). Agree planned legs k p new) (sym is.1)
            (agree_stays planned legs k Middle Middle old new (other_leg_stays k leg passes.leg old new (λ e. omega (arith, e, early)) change) stands (same_air planned old new change.ue change.cfn before.air) (λ c. refl) (λ c. refl) before))
        | inr late ↦ (
            let is = radio_late k set leg late in
            let before : Agree planned legs k Sent old = subst (λ (p : Phase). Agree planned legs k p old) is.0 a in
            subst (λ (p : Phase). Agree planned legs k p new) (sym is.1)
            (agree_stays planned legs k Sent Sent old new (other_leg_stays k leg passes.leg old new (λ e. omega (arith, e, late)) change) stands tt (λ c. refl) (λ c. refl) before))
      ])
]
agree_stage planned legs k set (IubUp s leg) old new lines good passes a =
    let late = iub_late k set s leg in
    let change = up_change (over (uplink_of old) s old.cfn) s leg old new lines passes in
    agree_late planned legs k (phase_of k set (IubUp s leg)) (exit_of k set (IubUp s leg)) old new late.0 late.1 (frame_stays k old new change) (same_stands planned old new change.ue a.ue) a
agree_stage planned legs k set (Combine s) old new lines good passes a =
    let late = combine_late k set s in
    let change = set_change (over (uplink_of old) s old.cfn) s old new lines passes in
    agree_late planned legs k (phase_of k set (Combine s)) (exit_of k set (Combine s)) old new late.0 late.1 (set_stays k s old new change) (same_stands planned old new change.ue a.ue) a

-- the end of a radio frame
pub agree_framed : (planned : Planned) (legs k : ℕ) (soft : SoftState) → Agree planned legs k Over soft → Agree planned legs k Before (framed soft)
agree_framed planned legs k soft a = record {
  count = a.count;
  rnc_active = a.rnc_active;
  ue = a.ue;
  node_b_active = a.node_b_active;
  ue_cfn = a.ue_cfn;
  node_b_cfn = a.node_b_cfn;
  formats = a.formats;
  air = tt;
}

-- what happens between two radio frames
between_stands : (planned : Planned) (old : SoftState) (event : Event) (new : SoftState) (lines : List Line) → IsPlanned planned → Happens old event new lines → UeStands planned old.ue.state → UeStands planned new.ue.state
between_stands planned old (OfferedUnit Up b octets bits) new lines good happens s = ue_stands planned old.ue.state (UeOffered b octets bits) new.ue.state new.ue.last good tt (ue_step old new (UeOffered b octets bits) happens.0) s
between_stands planned old (OfferedUnit Down b octets bits) new lines good happens s = same_stands planned old new (ap (λ (x : SoftState). x.ue) happens.0.is) s
between_stands planned old (BlockedCombination Up c on) new lines good happens s = ue_stands planned old.ue.state (UeBlocked c on) new.ue.state new.ue.last good tt (ue_step old new (UeBlocked c on) happens.0) s
between_stands planned old (BlockedCombination Down c on) new lines good happens s = same_stands planned old new (ap (λ (x : SoftState). x.ue) happens.0.is) s
between_stands planned old (Damages leg damage) new lines good happens s = same_stands planned old new (ap (λ (x : SoftState). x.ue) happens.0) s

pub agree_between : (planned : Planned) (legs k : ℕ) (old : SoftState) (event : Event) (new : SoftState) (lines : List Line) → IsPlanned planned → Happens old event new lines → Agree planned legs k Before old → Agree planned legs k Before new
agree_between planned legs k old event new lines good happens a =
    agree_stays planned legs k Before Before old new (between_stays k old event new lines happens) (between_stands planned old event new lines good happens a.ue) tt (λ c. refl) (λ c. refl) a

-- a move, and a run
abbrev pub AgreeAt : Planned → ℕ → ℕ → ℕ → Point → Type 0
AgreeAt planned legs k set point = InPoint (Agree planned legs k) k set point

-- at rest
pub at_rest : (P : Phase → SoftState → Type 0) (k set : ℕ) (point : Point) → point.stage ≡ RncTick → InPoint P k set point → P Before point.soft
at_rest P k set point rests h = subst (λ (stage : Stage). P (phase_of k set stage) point.soft) rests h

pub agree_next : (planned : Planned) (legs k set : ℕ) (old new : Point) (lines : List Line) → IsPlanned planned → k < legs → set < 8 → Passes old new lines → AgreeAt planned legs k set old → AgreeAt planned legs k set new
agree_next planned legs k set old new lines good there small step a =
    let after : Agree planned legs k (exit_of k set old.stage) step.soft = agree_stage planned legs k set old.stage old.soft step.soft lines good step.passes a in
    let is : new ≡ behind step.soft (next_stage legs old.stage) = step.is ∙ ap (λ n. behind step.soft (next_stage n old.stage)) a.count in
    subst (AgreeAt planned legs k set) (sym is) (next_holds (Agree planned legs k) legs k set there small (agree_framed planned legs k) old.stage step.soft after)

pub agree_event : (planned : Planned) (legs k set : ℕ) (old : Point) (event : Event) (new : Point) (lines : List Line) → IsPlanned planned → HappensBetween old event new lines → AgreeAt planned legs k set old → AgreeAt planned legs k set new
agree_event planned legs k set old event new lines good step a =
    subst (AgreeAt planned legs k set) (sym step.is) (agree_between planned legs k old.soft event step.soft lines good step.happens (at_rest (Agree planned legs k) k set old step.at_rest a))

pub runs_agree : (planned : Planned) (legs k set : ℕ) (moves : List Move) (old new : Point) (lines : List Line) → IsPlanned planned → k < legs → set < 8 → Runs old moves new lines → AgreeAt planned legs k set old → AgreeAt planned legs k set new
runs_agree planned legs k set [] old new lines good there small run a = subst (AgreeAt planned legs k set) (sym run.0) a
runs_agree planned legs k set (Between event ∷ moves) old new lines good there small run a =
    runs_agree planned legs k set moves run.next new run.rest good there small run.later (agree_event planned legs k set old event run.next run.own good run.step a)
runs_agree planned legs k set (Next ∷ moves) old new lines good there small run a =
    runs_agree planned legs k set moves run.next new run.rest good there small run.later (agree_next planned legs k set old run.next run.own good there small run.step a)

pub opened_agree : (planned : Planned) (first legs k set : ℕ) → IsPlanned planned → first % 8 ≡ 0 → AgreeAt planned legs k set (opened_point planned first legs)
opened_agree planned first legs k set good eighth = record {
  count = refl;
  rnc_active = refl;
  ue = record { planned_is = refl; layer = opened_stands planned.config Up good.good };
  node_b_active = refl;
  ue_cfn = refl;
  node_b_cfn = refl;
  formats = λ j inside off. absurd (let both : false ≡ true = sym off ∙ starts-eighth (frames_of planned j) first (good.good.uplink.side.channels j inside).frames eighth in cc);
  air = tt;
}
