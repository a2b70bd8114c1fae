-- What holds of a node behind a handle at any time: from its opening on, after an event, and after a change.
use Rattle.std.proofs.Common.{◌≡◌, ◌≤◌, ◌+◌, ◌-◌, ◌%◌, ◌∙◌, ℕ, [], Option, Some, None, Bool, true, false, if◌then◌else◌, arith, ap, refl, subst}
use Rattle.std.specs.Prelude.{IfSome, nat_lt}
use Rattle.std.proofs.lemmas.Bool.{eqb-true, ltb-false}
use Rattle.dch_accept.specs.Plans.{Planned}
use Rattle.dch_accept.specs.Reports.{step_bytes}
use Rattle.dch_check.specs.declared.both.Second.{Second}
use Rattle.dch_handle.specs.NodeRules.{CanChange, Goes, KeepsTime, NodeRules, RepresentsHistory, cfn_after}
use Rattle.dch_handle.specs.Runs.{AreAwaited, IsRun, Run, StartsTtis, frames_after, is_due}
use Rattle.dch_handle.specs.Telling.{HasRoomFor, IsToldAnew, IsWhole, Waiting}

-- the radio frames go on as the CFN does, by 8
turned : (passed : Bool) (cfn next frames : ℕ) → next ≡ cfn_after passed cfn → cfn % 8 ≡ frames % 8 → next % 8 ≡ frames_after passed frames % 8
turned false cfn next frames is turn = ap (λ (n : ℕ). n % 8) is ∙ turn
turned true cfn next frames is turn = ap (λ (n : ℕ). n % 8) is ∙ by_case (nat_lt frames 100008) refl
  where
    by_case : (b : Bool) → nat_lt frames 100008 ≡ b → (cfn + 1) % 256 % 8 ≡ (if b then frames + 1 else frames - 7) % 8
    by_case true less = omega (arith, turn)
    by_case false less = let many : 100008 ≤ frames = ltb-false frames 100008 less in omega (arith, turn, many)

-- what holds of a second configuration that is to come
of_later : (P Q : Second → Type 0) (later : Option Second) → ((second : Second) → P second → Q second) → IfSome later P → IfSome later Q
of_later P Q None turns is = is
of_later P Q (Some second) turns is = turns second is

room_kept : (bytes : ℕ) (old new : Waiting) → HasRoomFor bytes old → IsToldAnew old new → HasRoomFor bytes new
room_kept bytes old new room told = record { heads = omega (arith, room.heads, told.most); octets = omega (arith, room.octets, told.room) }

-- at opening
pub run_opened : {S E V : Type 0} (rules : NodeRules S E V) → KeepsTime rules → (run : Run V) (first : ℕ) → first % 8 ≡ 0 → run.frames ≡ 0
    → rules.is_opened run.planned run.node → IfSome run.later (λ second. rules.has_next run.planned second.accepted run.node)
    → RepresentsHistory rules run.planned run.planned first [] [] run.node → IfSome run.later StartsTtis
    → HasRoomFor (step_bytes run.planned.config) run.waiting → IfSome run.later (λ second. HasRoomFor (step_bytes second.accepted.config) run.waiting)
    → IsWhole run.waiting → IsRun rules run
run_opened rules time run first eighth none opened next stands starts room later_room whole =
    let cfn : rules.cfn stands.state ≡ first = ap rules.cfn stands.after.0 ∙ time.opens_at run.planned first in
    record {
      opened = opened;
      next = next;
      room = room;
      later_room = later_room;
      whole = whole;
      timed = record { state = stands.state; stands = stands.stands; turn = omega (arith, eighth, cfn, none); whole = starts };
    }

-- after an event that is no change
pub run_after : {S E V : Type 0} (rules : NodeRules S E V) → KeepsTime rules → (event : E) (old : Run V) (node : V) (waiting : Waiting)
    → IsRun rules old → rules.is_opened old.planned node → ((second : Planned) → rules.has_next old.planned second old.node → rules.has_next old.planned second node)
    → Goes rules event old.planned old.planned old.node node (AreAwaited waiting) → IsToldAnew old.waiting waiting
    → IsRun rules (record old { frames = frames_after (rules.passes event) old.frames; node = node; waiting = waiting })
run_after rules time event old node waiting is opened next goes told =
    let timed = is.timed in
    let went = goes.step timed.state timed.stands in
    record {
      opened = opened;
      next = of_later (λ (second : Second). rules.has_next old.planned second.accepted old.node) (λ (second : Second). rules.has_next old.planned second.accepted node) old.later (λ second has. next second.accepted has) is.next;
      room = room_kept (step_bytes old.planned.config) old.waiting waiting is.room told;
      later_room = of_later (λ (second : Second). HasRoomFor (step_bytes second.accepted.config) old.waiting) (λ (second : Second). HasRoomFor (step_bytes second.accepted.config) waiting) old.later (λ second has. room_kept (step_bytes second.accepted.config) old.waiting waiting has told) is.later_room;
      whole = told.whole;
      timed = record {
        state = went.next;
        stands = went.stands;
        turn = turned (rules.passes event) (rules.cfn timed.state) (rules.cfn went.next) old.frames (time.turns timed.state went.next event went.output went.step) timed.turn;
        whole = timed.whole;
      };
    }

-- where a change is due, all TTIs start
pub can_change : {S E V : Type 0} (rules : NodeRules S E V) (run : Run V) (second : Second) → run.later ≡ Some second → is_due run.later run.frames ≡ true → IsRun rules run → CanChange rules second.accepted run.node
can_change rules run second later due is =
    let timed = is.timed in
    let at : second.frame ≡ run.frames = eqb-true second.frame run.frames (subst (λ (it : Option Second). is_due it run.frames ≡ true) later due) in
    let starts : second.frame % 8 ≡ 0 = subst (λ (it : Option Second). IfSome it StartsTtis) later timed.whole in
    record {
      first = run.planned;
      opened = is.opened;
      next = subst (λ (it : Option Second). IfSome it (λ second. rules.has_next run.planned second.accepted run.node)) later is.next;
      state = timed.state;
      stands = timed.stands;
      whole = omega (arith, at, starts, timed.turn);
    }

-- after a change
pub run_changed : {S E V : Type 0} (rules : NodeRules S E V) → KeepsTime rules → (old : Run V) (second : Second) (node : V) (waiting : Waiting) → old.later ≡ Some second
    → IsRun rules old → rules.is_opened second.accepted node → Goes rules (rules.change second.accepted) old.planned second.accepted old.node node (AreAwaited waiting) → IsToldAnew old.waiting waiting
    → IsRun rules (record old { planned = second.accepted; later = None; node = node; waiting = waiting })
run_changed rules time old second node waiting later is opened goes told =
    let timed = is.timed in
    let went = goes.step timed.state timed.stands in
    let passed : frames_after (rules.passes (rules.change second.accepted)) old.frames ≡ old.frames = ap (λ (b : Bool). frames_after b old.frames) (time.unpassed second.accepted) in
    let room : HasRoomFor (step_bytes second.accepted.config) old.waiting = subst (λ (it : Option Second). IfSome it (λ second. HasRoomFor (step_bytes second.accepted.config) old.waiting)) later is.later_room in
    record {
      opened = opened;
      next = tt;
      room = room_kept (step_bytes second.accepted.config) old.waiting waiting room told;
      later_room = tt;
      whole = told.whole;
      timed = record {
        state = went.next;
        stands = went.stands;
        turn = turned (rules.passes (rules.change second.accepted)) (rules.cfn timed.state) (rules.cfn went.next) old.frames (time.turns timed.state went.next (rules.change second.accepted) went.output went.step) timed.turn
            ∙ ap (λ (n : ℕ). n % 8) passed;
        whole = tt;
      };
    }
