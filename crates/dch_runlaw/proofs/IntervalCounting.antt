-- The radio frames of a TTI are counted, and what changes only where a TTI starts stays in them.
use Rattle.std.proofs.Common.{◌≡◌, ◌<◌, ◌+◌, ◌%◌, ◌∙◌, ℕ, List, [], ◌∷◌, true, false, arith, sym, ap, subst, inl, inr}
use Rattle.std.proofs.lemmas.Bool.{cases_eq}
use Rattle.dch_types.specs.Limits.{IsFrames}
use Rattle.dch_types.specs.Timing.{starts}
use Rattle.dch_accept.specs.Plans.{IsPlanned, Planned}
use Rattle.dch_node.specs.Lines.{Line}
use Rattle.dch_linkcmd.specs.LinkLink.{LinkState}
use Rattle.dch_runlaw.specs.Frames.{IsFrame}
use Rattle.dch_runlaw.specs.Runs.{Between, Event, Frame, Runs}
use Rattle.dch_runlaw.proofs.ClearBetween.{Same, between}
use Rattle.dch_runlaw.proofs.ClearTtis.{count_next, some_frames, starts_off}
use Rattle.dch_runlaw.specs.Intervals.{InFrames, InTti, Tti, frames_in}
use Rattle.dch_runlaw.proofs.IntervalAgree.{Agree, Parts, parts, runs_agree, stays}

pub starts_zero : (f c : ℕ) → IsFrames f → starts f c ≡ true → c % f ≡ 0
starts_zero f c is on = elim (cases_eq (c % f) 0) [
  | inl none ↦ none
  | inr some ↦ (
      let apart : c % f ≡ 0 → ⊥ = some in
      let off : starts f c ≡ false = starts_off f c (some_frames f is) apart in
      absurd (let both : false ≡ true = sym off ∙ on in cc))
]

-- a value of the nodes that changes only where a TTI of so many radio frames starts
pub record Watch (planned : Planned) (frames : ℕ) (X : Type 0) : Type 0 where
  pub value : LinkState → X
  pub frame_value : (old new : LinkState) → (lines : List Line) → IsFrame old new lines → X
  pub same : (old new : LinkState) → Same old new → value new ≡ value old
  pub after : (old new : LinkState) (lines : List Line) (f : IsFrame old new lines) → Agree planned old → value new ≡ frame_value old new lines f
  pub before : (old new : LinkState) (lines : List Line) (f : IsFrame old new lines) → Agree planned old → starts frames old.rnc.state.cfn ≡ false → frame_value old new lines f ≡ value old

pub record Counted (planned : Planned) (frames : ℕ) (X : Type 0) (w : Watch planned frames X) (x : X) (events : List Event) (old last : LinkState) (lines : List Line) (run : Runs old events last lines) : Type 0 where
  pub inside : InFrames (λ old new lines f. w.frame_value old new lines f ≡ x) events old last lines run
  pub here : 0 < old.rnc.state.cfn % frames → w.value old ≡ x
  pub at_end : last.rnc.state.cfn % frames + 1 ≡ frames

counted : (planned : Planned) (frames : ℕ) (X : Type 0) (w : Watch planned frames X) (x : X) (events : List Event) (old last : LinkState) (lines : List Line) (run : Runs old events last lines)
    → IsPlanned planned → IsFrames frames → Agree planned old → old.rnc.state.cfn % frames + frames_in events + 1 ≡ frames → (0 < last.rnc.state.cfn % frames → w.value last ≡ x) → Counted planned frames X w x events old last lines run
counted planned frames X w x [] old last lines run good is a fits end = record {
  inside = tt;
  here = subst (λ (l : LinkState). 0 < l.rnc.state.cfn % frames → w.value l ≡ x) run.0 end;
  at_end = subst (λ (l : LinkState). l.rnc.state.cfn % frames + 1 ≡ frames) (sym run.0) (omega (arith, fits));
}
counted planned frames X w x (Between event ∷ events) old last lines run good is a fits end =
    let same : Same old run.next = (between old run.next event run.own run.step).0 in
    let later : Counted planned frames X w x events run.next last run.rest run.later =
    counted planned frames X w x events run.next last run.rest run.later good is (stays planned old run.next same a) (subst (λ c. c % frames + frames_in events + 1 ≡ frames) (sym same.cfn) fits) end in
    record {
      inside = later.inside;
      here = λ some. sym (w.same old run.next same) ∙ later.here (subst (λ c. 0 < c % frames) (sym same.cfn) some);
      at_end = later.at_end;
    }
counted planned frames X w x (Frame ∷ events) old last lines run good is a fits end =
    let f : IsFrame old run.next run.own = run.step.frame in
    let p : Parts planned old run.next run.own f = parts planned old run.next run.own f good a in
    let c : ℕ = old.rnc.state.cfn in
    let n : ℕ = frames_in events in
    let more : c % frames + (n + 1) + 1 ≡ frames = fits in
    let next : run.next.rnc.state.cfn % frames ≡ c % frames + 1 = ap (λ k. k % frames) p.next_cfn ∙ count_next frames c is (omega (arith, more)) in
    let later : Counted planned frames X w x events run.next last run.rest run.later =
    counted planned frames X w x events run.next last run.rest run.later good is p.agree (omega (arith, next, more)) end in
    let now : w.frame_value old run.next run.own f ≡ x = sym (w.after old run.next run.own f a) ∙ later.here (omega (arith, next)) in
    record {
      inside = (now, later.inside);
      here = λ some. sym (w.before old run.next run.own f a (starts_off frames c (some_frames frames is) (λ e. omega (arith, e, some)))) ∙ now;
      at_end = later.at_end;
    }

-- so it stays in all radio frames of a TTI, of which the last state is before its last radio frame
pub record Stayed (planned : Planned) (frames : ℕ) (X : Type 0) (w : Watch planned frames X) (old new : LinkState) (t : Tti frames old new) : Type 0 where
  pub inside : InTti (λ a b lines f. w.frame_value a b lines f ≡ w.value new) frames old new t
  pub at_end : t.last.rnc.state.cfn % frames + 1 ≡ frames

pub stayed : (planned : Planned) (frames : ℕ) (X : Type 0) (w : Watch planned frames X) (old new : LinkState) (t : Tti frames old new) → IsPlanned planned → IsFrames frames → Agree planned old → Stayed planned frames X w old new t
stayed planned frames X w old new t good is a =
    let zero : old.rnc.state.cfn % frames ≡ 0 = starts_zero frames old.rnc.state.cfn is t.at_start in
    let b : Agree planned t.last = runs_agree planned t.events old t.last t.lines t.run good a in
    let now : w.frame_value t.last new t.last_lines t.step.frame ≡ w.value new = sym (w.after t.last new t.last_lines t.step.frame b) in
    let all : Counted planned frames X w (w.value new) t.events old t.last t.lines t.run =
    counted planned frames X w (w.value new) t.events old t.last t.lines t.run good is a (omega (arith, zero, t.count))
    (λ some. sym (w.before t.last new t.last_lines t.step.frame b (starts_off frames t.last.rnc.state.cfn (some_frames frames is) (λ e. omega (arith, e, some)))) ∙ now) in
    record { inside = (all.inside, now); at_end = all.at_end }
