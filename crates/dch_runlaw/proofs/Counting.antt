-- The radio frames of a TTI are counted, and in each of them the terminal has the same blocks.
use Rattle.std.proofs.Common.{◌≡◌, ◌<◌, ◌≤◌, ◌+◌, ◌%◌, ◌∙◌, add-zero, ℕ, List, [], ◌∷◌, length, Bool, true, false, Option, Some, None, arith, refl, sym, ap}
use Rattle.std.specs.Prelude.{◌==◌, if◌then◌else◌, nat_lt}
use Rattle.dch_types.specs.Limits.{IsFrames}
use Rattle.dch_accept.specs.Plans.{IsPlanned, Planned}
use Rattle.dch_node.specs.Lines.{Line}
use Rattle.dch_layer2.specs.Layers.{Given}
use Rattle.dch_linkcmd.specs.RncState.{Tick as RncTicks}
use Rattle.dch_linkcmd.specs.UeState.{Event as UeEvent, State as UeState}
use Rattle.dch_linkcmd.specs.Courses.{Course}
use Rattle.dch_linkcmd.specs.SoftPassing.{next_stage}
use Rattle.dch_linkcmd.specs.LinkSoft.{SoftState, over, uplink_of}
use Rattle.dch_linkcmd.specs.SoftStages.{AtStage}
use Rattle.dch_linkcmd.specs.soft_stage.Stage.{Stage}
use Rattle.dch_linkcmd.specs.soft_stage.Stage.TheVariants.{RncTick, IubDown, RadioDown, UeTick, RadioUp, IubUp, Combine}
use Rattle.dch_runlaw.proofs.ClearTtis.{count_next}
use Rattle.dch_runlaw.specs.Legs.{GivesBlocks}
use Rattle.dch_runlaw.specs.SoftRuns.{Between, HappensBetween, Move, Next, Passes, Point, Runs, behind}
use Rattle.dch_runlaw.specs.Ttis.{InStages, frames_at, frames_in}
use Rattle.dch_runlaw.proofs.Agreeing.{Agree, AgreeAt, Ticks, agree_event, agree_next, frames_of, ticks_in, up_side}
use Rattle.dch_runlaw.proofs.Changes.{IsLegChange, Stays, between_stays, frame_stays, iub_down_stays, leg_change, radio_down_stays, rnc_goes_stays, set_change, set_stays, up_change}
use Rattle.dch_runlaw.proofs.Coming.{frames_are, tick_same}
use Rattle.dch_runlaw.proofs.Phases.{phase_of}

-- how many radio frames the terminal has sent in the radio frame that is on
abbrev pub sent_before : Stage → ℕ
sent_before RncTick = 0
sent_before (IubDown leg set) = 0
sent_before (RadioDown leg) = 0
sent_before UeTick = 0
sent_before (RadioUp leg) = 1
sent_before (IubUp set leg) = 1
sent_before (Combine set) = 1

-- from a stage to the next one
abbrev GoesOn : Stage → Option Stage → Type 0
GoesOn stage None = (sent_before stage ≡ 1) × (frames_at stage ≡ 0)
GoesOn stage (Some next) = sent_before next ≡ sent_before stage + frames_at stage

either_goes : (stage : Stage) (b : Bool) (x y : Option Stage) → GoesOn stage x → GoesOn stage y → GoesOn stage (if b then x else y)
either_goes stage true x y one other = one
either_goes stage false x y one other = other

goes_on : (legs : ℕ) (stage : Stage) → GoesOn stage (next_stage legs stage)
goes_on legs RncTick = refl
goes_on legs (IubDown leg set) = either_goes (IubDown leg set) (set == 7) (Some (RadioDown leg)) (Some (IubDown leg (set + 1))) refl refl
goes_on legs (RadioDown leg) = either_goes (RadioDown leg) (nat_lt (leg + 1) legs) (Some (IubDown (leg + 1) 0)) (Some UeTick) refl refl
goes_on legs UeTick = refl
goes_on legs (RadioUp leg) = either_goes (RadioUp leg) (nat_lt (leg + 1) legs) (Some (RadioUp (leg + 1))) (Some (IubUp 0 0)) refl refl
goes_on legs (IubUp set leg) = either_goes (IubUp set leg) (nat_lt (leg + 1) legs) (Some (IubUp set (leg + 1))) (Some (Combine set)) refl refl
goes_on legs (Combine set) = either_goes (Combine set) (set == 7) None (Some (IubUp (set + 1) 0)) (refl, refl) refl

most_next : (stage : Stage) (next : Option Stage) (soft : SoftState) → GoesOn stage next → sent_before (behind soft next).stage ≤ sent_before stage + frames_at stage
most_next stage None soft goes = omega arith
most_next stage (Some next) soft goes = omega (arith, goes)

-- a run whose last radio frame has been sent sends it, if it hadn't been sent before
reaches : (moves : List Move) (old new : Point) (lines : List Line) (run : Runs old moves new lines) → sent_before new.stage ≤ sent_before old.stage + frames_in moves old new lines run
reaches [] old new lines run =
    let same : sent_before new.stage ≡ sent_before old.stage = ap (λ (p : Point). sent_before p.stage) run.0 in
    omega (arith, same)
reaches (Between event ∷ moves) old new lines run =
    let later : sent_before new.stage ≤ sent_before run.next.stage + frames_in moves run.next new run.rest run.later = reaches moves run.next new run.rest run.later in
    let none : sent_before run.next.stage ≡ 0 = ap (λ (p : Point). sent_before p.stage) run.step.is in
    omega (arith, later, none)
reaches (Next ∷ moves) old new lines run =
    let later : sent_before new.stage ≤ sent_before run.next.stage + frames_in moves run.next new run.rest run.later = reaches moves run.next new run.rest run.later in
    let next : Option Stage = next_stage old.soft.count old.stage in
    let same : sent_before run.next.stage ≡ sent_before (behind run.step.soft next).stage = ap (λ (p : Point). sent_before p.stage) run.step.is in
    let most : sent_before (behind run.step.soft next).stage ≤ sent_before old.stage + frames_at old.stage = most_next old.stage next run.step.soft (goes_on old.soft.count old.stage) in
    omega (arith, later, same, most)

-- the CFN follows
counts_on : (f : ℕ) (stage : Stage) (next : Option Stage) (soft : SoftState) (n : ℕ) → IsFrames f → GoesOn stage next → soft.cfn % f + sent_before stage + (frames_at stage + n) ≡ f → 1 ≤ sent_before (behind soft next).stage + n
    → (behind soft next).soft.cfn % f + sent_before (behind soft next).stage + n ≡ f
counts_on f stage None soft n is goes fits more =
    let on : soft.cfn % f + 1 < f = omega (arith, goes.0, goes.1, fits, more) in
    let counted : ((soft.cfn + 1) % 256) % f ≡ soft.cfn % f + 1 = count_next f soft.cfn is on in
    omega (arith, counted, goes.0, goes.1, fits)
counts_on f stage (Some next) soft n is goes fits more = omega (arith, goes, fits)

-- a stage leaves the CFN; and the blocks of a channel whose TTI goes on
record Keeps (planned : Planned) (i : ℕ) (stage : Stage) (old new : SoftState) : Type 0 where
  cfn : new.cfn ≡ old.cfn
  given : 0 < old.cfn % frames_of planned i + sent_before stage → new.ue.state.layer.given i ≡ old.ue.state.layer.given i

stays_keep : (planned : Planned) (k i : ℕ) (stage : Stage) (old new : SoftState) → Stays k old new → Keeps planned i stage old new
stays_keep planned k i stage old new r = record { cfn = r.cfn; given = λ some. r.ue_layer.given i }

keeps : (planned : Planned) (legs k set i : ℕ) (stage : Stage) (old new : SoftState) (lines : List Line) → IsPlanned planned → i < length (up_side planned).channels → AtStage stage old new lines → Agree planned legs k (phase_of k set stage) old → Keeps planned i stage old new
keeps planned legs k set i RncTick old new lines good inside passes a = stays_keep planned k i RncTick old new (rnc_goes_stays k RncTicks old new tt passes.0)
keeps planned legs k set i (IubDown leg s) old new lines good inside passes a = stays_keep planned k i (IubDown leg s) old new (iub_down_stays k leg s (old.rnc.last.iub s) old new lines passes)
keeps planned legs k set i (RadioDown leg) old new lines good inside passes a = stays_keep planned k i (RadioDown leg) old new (radio_down_stays k leg old new lines passes)
keeps planned legs k set i UeTick old new lines good inside passes a =
    let t : Ticks planned old new = ticks_in planned legs k old new lines good passes a in
    record { cfn = t.cfn; given = λ some. tick_same planned i old new good inside t (omega (arith, some)) }
keeps planned legs k set i (RadioUp leg) old new lines good inside passes a =
    let change : IsLegChange leg passes.leg old new = leg_change leg passes.leg old new passes.is in
    record { cfn = change.cfn; given = λ some. ap (λ (u : Course UeState UeEvent). u.state.layer.given i) change.ue }
keeps planned legs k set i (IubUp s leg) old new lines good inside passes a = stays_keep planned k i (IubUp s leg) old new (frame_stays k old new (up_change (over (uplink_of old) s old.cfn) s leg old new lines passes))
keeps planned legs k set i (Combine s) old new lines good inside passes a = stays_keep planned k i (Combine s) old new (set_stays k s old new (set_change (over (uplink_of old) s old.cfn) s old new lines passes))

gives : (i : ℕ) (given : Given) (stage : Stage) (old new : SoftState) → (1 ≤ frames_at stage → new.ue.state.layer.given i ≡ given) → GivesBlocks i given stage old new
gives i given RncTick old new is = tt
gives i given (IubDown leg s) old new is = tt
gives i given (RadioDown leg) old new is = tt
gives i given UeTick old new is = is (omega arith)
gives i given (RadioUp leg) old new is = tt
gives i given (IubUp s leg) old new is = tt
gives i given (Combine s) old new is = tt

same_given : (i : ℕ) (soft : SoftState) (next : Option Stage) → (behind soft next).soft.ue.state.layer.given i ≡ soft.ue.state.layer.given i
same_given i soft None = refl
same_given i soft (Some next) = refl

-- in a run to the end of a TTI
pub record Counted (planned : Planned) (i : ℕ) (given : Given) (moves : List Move) (old last : Point) (lines : List Line) (run : Runs old moves last lines) : Type 0 where
  pub stays : InStages (GivesBlocks i given) moves old last lines run
  pub here : 0 < old.soft.cfn % frames_of planned i + sent_before old.stage → old.soft.ue.state.layer.given i ≡ given
  pub at_end : last.soft.cfn % frames_of planned i + 1 ≡ frames_of planned i

pub counted : (planned : Planned) (legs k set i : ℕ) (given : Given) (moves : List Move) (old last : Point) (lines : List Line) → IsPlanned planned → k < legs → set < 8 → i < length (up_side planned).channels → (run : Runs old moves last lines)
    → AgreeAt planned legs k set old → old.soft.cfn % frames_of planned i + sent_before old.stage + frames_in moves old last lines run ≡ frames_of planned i → sent_before last.stage ≡ 1 → last.soft.ue.state.layer.given i ≡ given → Counted planned i given moves old last lines run
counted planned legs k set i given [] old last lines good there small inside run a fits sent is = record {
  stays = tt;
  here = λ some. ap (λ (p : Point). p.soft.ue.state.layer.given i) (sym run.0) ∙ is;
  at_end =
      let cfn : last.soft.cfn ≡ old.soft.cfn = ap (λ (p : Point). p.soft.cfn) run.0 in
      let stage : sent_before last.stage ≡ sent_before old.stage = ap (λ (p : Point). sent_before p.stage) run.0 in
      ap (λ n. n % frames_of planned i + 1) cfn ∙ ap (λ n. old.soft.cfn % frames_of planned i + n) (sym sent ∙ stage) ∙ sym (add-zero (old.soft.cfn % frames_of planned i + sent_before old.stage)) ∙ fits;
}
counted planned legs k set i given (Between event ∷ moves) old last lines good there small inside run a fits sent is =
    let step : HappensBetween old event run.next run.own = run.step in
    let r : Stays k old.soft step.soft = between_stays k old.soft event step.soft run.own step.happens in
    let cfn : run.next.soft.cfn ≡ old.soft.cfn = ap (λ (p : Point). p.soft.cfn) step.is ∙ r.cfn in
    let stage : sent_before run.next.stage ≡ sent_before old.stage = ap (λ (p : Point). sent_before p.stage) step.is ∙ ap sent_before (sym step.at_rest) in
    let same : run.next.soft.ue.state.layer.given i ≡ old.soft.ue.state.layer.given i = ap (λ (p : Point). p.soft.ue.state.layer.given i) step.is ∙ r.ue_layer.given i in
    let place : run.next.soft.cfn % frames_of planned i ≡ old.soft.cfn % frames_of planned i = ap (λ n. n % frames_of planned i) cfn in
    let later : Counted planned i given moves run.next last run.rest run.later =
    counted planned legs k set i given moves run.next last run.rest good there small inside run.later (agree_event planned legs k set old event run.next run.own good step a) (omega (arith, place, stage, fits)) sent is in
    record { stays = later.stays; here = λ some. sym same ∙ later.here (omega (arith, place, stage, some)); at_end = later.at_end }
counted planned legs k set i given (Next ∷ moves) old last lines good there small inside run a fits sent is =
    let step : Passes old run.next run.own = run.step in
    let f : ℕ = frames_of planned i in
    let n : ℕ = frames_in moves run.next last run.rest run.later in
    let next : Option Stage = next_stage old.soft.count old.stage in
    let goes : GoesOn old.stage next = goes_on old.soft.count old.stage in
    let kept : Keeps planned i old.stage old.soft step.soft = keeps planned legs k set i old.stage old.soft step.soft run.own good inside step.passes a in
    let place : step.soft.cfn % f ≡ old.soft.cfn % f = ap (λ c. c % f) kept.cfn in
    let stage : sent_before run.next.stage ≡ sent_before (behind step.soft next).stage = ap (λ (p : Point). sent_before p.stage) step.is in
    let cfn : run.next.soft.cfn % f ≡ (behind step.soft next).soft.cfn % f = ap (λ (p : Point). p.soft.cfn % f) step.is in
    let most : sent_before last.stage ≤ sent_before run.next.stage + n = reaches moves run.next last run.rest run.later in
    let whole : old.soft.cfn % f + sent_before old.stage + (frames_at old.stage + n) ≡ f = fits in
    let there_fits : (behind step.soft next).soft.cfn % f + sent_before (behind step.soft next).stage + n ≡ f =
    counts_on f old.stage next step.soft n (frames_are planned i good inside) goes (omega (arith, place, whole)) (omega (arith, stage, most, sent)) in
    let next_fits : run.next.soft.cfn % f + sent_before run.next.stage + n ≡ f = omega (arith, stage, cfn, there_fits) in
    let same : run.next.soft.ue.state.layer.given i ≡ step.soft.ue.state.layer.given i = ap (λ (p : Point). p.soft.ue.state.layer.given i) step.is ∙ same_given i step.soft next in
    let later : Counted planned i given moves run.next last run.rest run.later =
    counted planned legs k set i given moves run.next last run.rest good there small inside run.later (agree_next planned legs k set old run.next run.own good there small step a) next_fits sent is in
    let now : 0 < run.next.soft.cfn % f + sent_before run.next.stage → step.soft.ue.state.layer.given i ≡ given = λ some. sym same ∙ later.here some in
    record {
      stays = (gives i given old.stage old.soft step.soft (λ one. now (omega (arith, one, whole, next_fits))), later.stays);
      here = λ some. sym (kept.given some) ∙ now (omega (arith, some, whole, next_fits));
      at_end = later.at_end;
    }
