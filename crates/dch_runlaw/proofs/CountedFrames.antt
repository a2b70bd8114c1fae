-- The CFN goes on by the radio frames of a run.
use Rattle.std.proofs.Common.{◌≡◌, ◌+◌, ◌%◌, ◌∙◌, ℕ, List, [], ◌∷◌, arith, ap}
use Rattle.dch_accept.specs.Plans.{IsPlanned, Planned}
use Rattle.dch_node.specs.Lines.{Line}
use Rattle.dch_linkcmd.specs.RncState.{State as RncState}
use Rattle.dch_linkcmd.specs.LinkLink.{LinkState, opened_link}
use Rattle.dch_runlaw.specs.Intervals.{frames_in}
use Rattle.dch_runlaw.specs.Parts.{GoesOver}
use Rattle.dch_runlaw.specs.Runs.{Between, Event, Frame, Runs}
use Rattle.dch_runlaw.proofs.Changing.{changed_is}
use Rattle.dch_runlaw.proofs.ClearBetween.{Same, between}
use Rattle.dch_runlaw.proofs.IntervalAgree.{Agree, Parts, opened_agree, parts, stays}

pub frames_passed : (planned : Planned) (events : List Event) (old new : LinkState) (lines : List Line) → Runs old events new lines → IsPlanned planned → Agree planned old → new.rnc.state.cfn % 8 ≡ (old.rnc.state.cfn + frames_in events) % 8
frames_passed planned [] old new lines run good a =
    let same : new.rnc.state.cfn ≡ old.rnc.state.cfn = ap (λ (l : LinkState). l.rnc.state.cfn) run.0 in
    omega (arith, same)
frames_passed planned (Between event ∷ events) old new lines run good a =
    let same : Same old run.next = (between old run.next event run.own run.step).0 in
    let rest : new.rnc.state.cfn % 8 ≡ (run.next.rnc.state.cfn + frames_in events) % 8 = frames_passed planned events run.next new run.rest run.later good (stays planned old run.next same a) in
    rest ∙ ap (λ n. (n + frames_in events) % 8) same.cfn
frames_passed planned (Frame ∷ events) old new lines run good a =
    let p : Parts planned old run.next run.own run.step.frame = parts planned old run.next run.own run.step.frame good a in
    let rest : new.rnc.state.cfn % 8 ≡ (run.next.rnc.state.cfn + frames_in events) % 8 = frames_passed planned events run.next new run.rest run.later good p.agree in
    rest ∙ ap (λ n. (n + frames_in events) % 8) p.next_cfn ∙ goes_on old.rnc.state.cfn (frames_in events)
  where
    goes_on : (c n : ℕ) → ((c + 1) % 256 + n) % 8 ≡ (c + (n + 1)) % 8
    goes_on c n = omega arith

-- so where a number of radio frames has passed that 8 divides, all TTIs start
pub eighth_over : (planned second : Planned) (first : ℕ) (events : List Event) (lines : List Line) (start : LinkState) → GoesOver planned second first events lines start → IsPlanned planned → first % 8 ≡ 0 → frames_in events % 8 ≡ 0 → start.rnc.state.cfn % 8 ≡ 0
eighth_over planned second first events lines start over good eighth whole =
    let same : start.rnc.state.cfn ≡ over.last.rnc.state.cfn = ap (λ (x : RncState). x.cfn) (changed_is second over.last start over.changes).rnc in
    let passed : over.last.rnc.state.cfn % 8 ≡ (first + frames_in events) % 8 = frames_passed planned events (opened_link planned first) over.last lines over.run good (opened_agree planned first good) in
    ap (λ n. n % 8) same ∙ passed ∙ both first (frames_in events) eighth whole
  where
    both : (a b : ℕ) → a % 8 ≡ 0 → b % 8 ≡ 0 → (a + b) % 8 ≡ 0
    both a b one two = omega (arith, one, two)
