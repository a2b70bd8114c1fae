-- Runs of three nodes in which no damage has an effect.
use Rattle.std.proofs.Common.{◌≡◌, ◌<◌, ◌%◌, ◌∙◌, ℕ, List, [], ◌∷◌, length, true, false, arith, sym, subst}
use Rattle.dch_types.specs.declared.channel.Side.{Side}
use Rattle.dch_types.specs.declared.channel.Dir.{Dir}
use Rattle.dch_types.specs.declared.channel.Dir.TheVariants.{Down, Up}
use Rattle.dch_types.specs.Limits.{IsFrames, IsSide}
use Rattle.dch_types.specs.Parts.{side_of}
use Rattle.dch_types.specs.Timing.{starts}
use Rattle.dch_accept.specs.Plans.{IsPlanned, Planned}
use Rattle.dch_node.specs.Lines.{Line}
use Rattle.dch_linkcmd.proofs.Steady.{starts-eighth}
use Rattle.dch_linkcmd.specs.LinkLink.{LinkState}
use Rattle.dch_runlaw.specs.Frames.{IsFrame}
use Rattle.dch_runlaw.specs.Runs.{Between, Event, Frame, Runs, Steps}
use Rattle.dch_runlaw.specs.Clear.{IsClear, EventClear}
use Rattle.dch_runlaw.specs.HonestFits.{EventFits, FrameFits, IsUndamaged, IsUndamagedOn}
use Rattle.dch_runlaw.specs.SizedLinks.{IsSized, LineSized}
use Rattle.dch_runlaw.specs.ClearSound.{AreSound}
use Rattle.dch_runlaw.specs.Parts.{Begins}
use Rattle.dch_runlaw.proofs.Begun.{Begun, begun}
use Rattle.dch_runlaw.proofs.SizedRuns.{is_sized}
use Rattle.dch_runlaw.proofs.ClearBetween.{between, stay_down, stay_up}
use Rattle.dch_runlaw.proofs.ClearDownFrame.{DownFrame, DownStand, down_frame, down_side, frames_on}
use Rattle.dch_runlaw.proofs.ClearFrameLines.{frame_sound}
use Rattle.dch_runlaw.proofs.ClearSound.{sound-append}
use Rattle.dch_runlaw.proofs.ClearTtis.{by_four}
use Rattle.dch_runlaw.proofs.ClearUpFrame.{UpFrame, UpStand, up_frame, up_side}

-- how the nodes stand after an event, in which what was given is taken
record EventDone (planned : Planned) (old : LinkState) (event : Event) (new : LinkState) (lines : List Line) (step : Steps old event new lines) : Type 0 where
  fits : (dir : Dir) (i : ℕ) → i < length (side_of planned.config dir).channels → EventFits (λ taken given. taken ≡ given) planned dir i old event new lines step
  sound : AreSound lines
  down_stand : DownStand planned new
  up_stand : UpStand planned new

frame_fits : (planned : Planned) (old new : LinkState) (lines : List Line) (f : IsFrame old new lines) → DownFrame planned old new lines f → UpFrame planned old new lines f
    → (dir : Dir) (i : ℕ) → i < length (side_of planned.config dir).channels → FrameFits (λ taken given. taken ≡ given) planned dir i old new lines f
frame_fits planned old new lines f a b Up i inside = b.taken_is i inside
frame_fits planned old new lines f a b Down i inside = a.taken_is i inside

event_done : (planned : Planned) (old : LinkState) (event : Event) (new : LinkState) (lines : List Line) (step : Steps old event new lines) → IsPlanned planned → EventClear old event new lines step → LineSized planned old event new lines step → DownStand planned old → UpStand planned old
    → EventDone planned old event new lines step
event_done planned old (Between event) new lines step good clear sized d u =
    let both = between old new event lines step in
    record { fits = λ dir i inside. tt; sound = both.1; down_stand = stay_down planned old new both.0 d; up_stand = stay_up planned old new both.0 u }
event_done planned old Frame new lines step good clear sized d u =
    let a = down_frame planned old new lines step.frame good clear sized.0 d in
    let b = up_frame planned old new lines step.frame good clear sized.1 sized.2 d u in
    record {
      fits = frame_fits planned old new lines step.frame a b;
      sound = frame_sound planned old new lines step.frame clear d a b;
      down_stand = a.stand;
      up_stand = b.stand;
    }

undamaged_from : (planned : Planned) (dir : Dir) (i : ℕ) (events : List Event) (old new : LinkState) (lines : List Line) (run : Runs old events new lines) → IsPlanned planned → i < length (side_of planned.config dir).channels
    → IsClear events old new lines run → IsSized planned events old new lines run → DownStand planned old → UpStand planned old → IsUndamagedOn planned dir i events old new lines run
undamaged_from planned dir i [] old new lines run good inside clear sized d u = tt
undamaged_from planned dir i (event ∷ events) old new lines run good inside clear sized d u =
    let one : EventDone planned old event run.next run.own run.step = event_done planned old event run.next run.own run.step good clear.0 sized.0 d u in
    (one.fits dir i inside, undamaged_from planned dir i events run.next new run.rest run.later good inside clear.1 sized.1 one.down_stand one.up_stand)

sound_from : (planned : Planned) (events : List Event) (old new : LinkState) (lines : List Line) (run : Runs old events new lines) → IsPlanned planned
    → IsClear events old new lines run → IsSized planned events old new lines run → DownStand planned old → UpStand planned old → AreSound lines
sound_from planned [] old new lines run good clear sized d u = subst AreSound (sym run.1) tt
sound_from planned (event ∷ events) old new lines run good clear sized d u =
    let one : EventDone planned old event run.next run.own run.step = event_done planned old event run.next run.own run.step good clear.0 sized.0 d u in
    subst AreSound (sym run.reported) (sound-append run.own run.rest one.sound (sound_from planned events run.next new run.rest run.later good clear.1 sized.1 one.down_stand one.up_stand))

-- where a part begins all TTIs start
all_start : (side : Side) (first j : ℕ) → IsSide side → j < length side.channels → first % 8 ≡ 0 → starts (frames_on side j) first ≡ false → ⊥
all_start side first j good inside eighth off = let both : false ≡ true = sym off ∙ starts-eighth (frames_on side j) first (good.channels j inside).frames eighth in cc

zero_of : (first f : ℕ) → first % 8 ≡ 0 → IsFrames f → first % f ≡ 0
zero_of first f eighth is = by_four f (λ f. first % f ≡ 0) is (omega arith) (omega (arith, eighth)) (omega (arith, eighth)) eighth

begun_down : (planned : Planned) (start : LinkState) → IsPlanned planned → Begun planned start → start.rnc.state.cfn % 8 ≡ 0 → DownStand planned start
begun_down planned start good b eighth = record {
  active = record { ue = b.fresh.are.ue; node_b = b.fresh.are.node_b; rnc = b.fresh.are.rnc };
  node_b_cfn = b.fresh.node_b_cfn;
  ue_cfn = b.fresh.ue_cfn;
  runs = λ j inside off. absurd (all_start (down_side planned) start.rnc.state.cfn j good.good.downlink.side inside eighth off);
  formats = λ j inside off. absurd (all_start (down_side planned) start.rnc.state.cfn j good.good.downlink.side inside eighth off);
  half = λ i inside some. absurd (omega (arith, some, zero_of start.rnc.state.cfn (frames_on (down_side planned) i) eighth (good.good.downlink.side.channels i inside).frames));
}

begun_up : (planned : Planned) (start : LinkState) → IsPlanned planned → start.rnc.state.cfn % 8 ≡ 0 → UpStand planned start
begun_up planned start good eighth = record {
  formats = λ j inside off. absurd (all_start (up_side planned) start.rnc.state.cfn j good.good.uplink.side inside eighth off);
  half = λ i inside some. absurd (omega (arith, some, zero_of start.rnc.state.cfn (frames_on (up_side planned) i) eighth (good.good.uplink.side.channels i inside).frames));
}

-- of every channel just what was given is taken
pub clear_on : (planned : Planned) (dir : Dir) (i : ℕ) (events : List Event) (start new : LinkState) (lines : List Line) (run : Runs start events new lines) → IsPlanned planned → Begins planned start → start.rnc.state.cfn % 8 ≡ 0 → IsClear events start new lines run
    → i < length (side_of planned.config dir).channels → IsUndamagedOn planned dir i events start new lines run
clear_on planned dir i events start new lines run good begins eighth clear inside =
    let b : Begun planned start = begun planned start good begins in
    undamaged_from planned dir i events start new lines run good inside clear (is_sized planned events start new lines run good b.both) (begun_down planned start good b eighth) (begun_up planned start good eighth)

pub clear_undamaged : (planned : Planned) (up down : ℕ) (events : List Event) (start new : LinkState) (lines : List Line) (run : Runs start events new lines) → IsPlanned planned → Begins planned start → start.rnc.state.cfn % 8 ≡ 0 → IsClear events start new lines run
    → up < length planned.config.uplink.side.channels → down < length planned.config.downlink.side.channels → IsUndamaged planned up down events start new lines run
clear_undamaged planned up down events start new lines run good begins eighth clear inside within = record {
  up_is = clear_on planned Up up events start new lines run good begins eighth clear inside;
  down_is = clear_on planned Down down events start new lines run good begins eighth clear within;
}

-- without a line of trouble
pub clear_sound : (planned : Planned) (events : List Event) (start new : LinkState) (lines : List Line) (run : Runs start events new lines) → IsPlanned planned → Begins planned start → start.rnc.state.cfn % 8 ≡ 0 → IsClear events start new lines run → AreSound lines
clear_sound planned events start new lines run good begins eighth clear =
    let b : Begun planned start = begun planned start good begins in
    sound_from planned events start new lines run good clear (is_sized planned events start new lines run good b.both) (begun_down planned start good b eighth) (begun_up planned start good eighth)
