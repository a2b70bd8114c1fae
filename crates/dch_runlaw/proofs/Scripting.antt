-- The lines of a script as moves of a run.
use Rattle.std.proofs.Common.{◌≡◌, ◌<◌, ◌≤◌, ◌+◌, ◌-◌, ◌*◌, ◌∙◌, ◌++◌, ℕ, zero, suc, List, [], ◌∷◌, Option, Some, None, Bool, true, false, add-zero, append_assoc, append-nil, arith, refl, ap, sym, subst, inl, inr}
use Rattle.std.specs.Prelude.{◌⊎◌, Ok}
use Rattle.std.proofs.lemmas.Bool.{cases_lt}
use Rattle.std.proofs.lemmas.Bool.Decides.{eqb_tells, leb_tells}
use Rattle.dch_types.specs.declared.config.Config.{Config}
use Rattle.dch_accept.specs.Plans.{Planned}
use Rattle.dch_script.specs.ParsedLine.{ParsedLine, code, unit, block, free, flip, lose, lose_iub, spoil, frame, iub, phy, phy_none, down, tick, change}
use Rattle.dch_script.specs.Soft.{soft_meaning}
use Rattle.dch_script.specs.declared.event.Event.TheVariants.{Frame}
use Rattle.dch_script.proofs.SoftKept.{answer_keeps}
use Rattle.dch_lines.specs.LineTexts.{HandlesLine, HandlesLines, is_empty}
use Rattle.dch_linkcmd.specs.Stepping.{LineSteps, Resumes}
use Rattle.dch_node.specs.Lines.{Line}
use Rattle.dch_script.specs.LineText.{text_of}
use Rattle.dch_lines.specs.Shown.{shown}
use Rattle.dch_linkcmd.specs.SoftPassing.{IsStage, leg_of, next_stage}
use Rattle.dch_linkcmd.specs.LinkSoft.{SoftState, active, over}
use Rattle.dch_linkcmd.specs.soft_stage.Stage.{Stage}
use Rattle.dch_linkcmd.specs.soft_stage.Stage.TheVariants.{RncTick, IubDown, RadioDown, UeTick, RadioUp, IubUp, Combine}
use Rattle.dch_lines.specs.Led.{led}
use Rattle.dch_linkcmd.specs.SoftLineEvents.{Frames, OneEvent, Said, Says, said_at, said_by, said_of_leg}
use Rattle.dch_linkcmd.specs.SoftRules.{PassesStage, Takes, soft_lines, soft_steps}
use Rattle.dch_linkcmd.specs.SoftRun.{Run, config_of, passed_by, steps_left}
use Rattle.dch_linkcmd.proofs.SoftStages.{steps_last, steps_next}
use Rattle.dch_runlaw.specs.SoftRuns.{Between, Move, Next, Point, Runs, behind}
use Rattle.dch_runlaw.specs.SoftScripts.{AreSaid, IsAtRest, IsRunOf, LineSays, point_of, shown_in, stages}
use Rattle.dch_runlaw.proofs.Changes.{between_stays, stage_steady}

-- a run with what is shown of its lines
record RunAt (quiet : Bool) (moves : List Move) (old new : Point) (text : List ℕ) : Type 0 where
  reported : List Line
  run : Runs old moves new reported
  shows : text ≡ shown_in quiet moves old new reported run

none_at : (quiet : Bool) (point : Point) → RunAt quiet [] point point []
none_at quiet point = record { reported = []; run = (refl, refl); shows = refl }

append_at : (quiet : Bool) (a b : List Move) (old mid new : Point) (x y : List ℕ) → RunAt quiet a old mid x → RunAt quiet b mid new y → RunAt quiet (a ++ b) old new (x ++ y)
append_at quiet [] b old mid new x y first second =
    subst (λ (t : List ℕ). RunAt quiet b old new (t ++ y)) (sym first.shows) (subst (λ (p : Point). RunAt quiet b p new y) first.run.0 second)
append_at quiet (Between event ∷ a) b old mid new x y first second =
    let own : List ℕ = shown quiet (text_of first.run.own) in
    let rest : List ℕ = shown_in quiet a first.run.next mid first.run.rest first.run.later in
    let later : RunAt quiet (a ++ b) first.run.next new (rest ++ y) = append_at quiet a b first.run.next mid new rest y (record { reported = first.run.rest; run = first.run.later; shows = refl }) second in
    record {
      reported = first.run.own ++ later.reported;
      run = record { next = first.run.next; own = first.run.own; rest = later.reported; step = first.run.step; later = later.run; reported = refl };
      shows = ap (λ (t : List ℕ). t ++ y) first.shows ∙ append_assoc own rest y ∙ ap (λ (t : List ℕ). own ++ t) later.shows;
    }
append_at quiet (Next ∷ a) b old mid new x y first second =
    let own : List ℕ = led (leg_of old.stage) (shown quiet (text_of first.run.own)) in
    let rest : List ℕ = shown_in quiet a first.run.next mid first.run.rest first.run.later in
    let later : RunAt quiet (a ++ b) first.run.next new (rest ++ y) = append_at quiet a b first.run.next mid new rest y (record { reported = first.run.rest; run = first.run.later; shows = refl }) second in
    record {
      reported = first.run.own ++ later.reported;
      run = record { next = first.run.next; own = first.run.own; rest = later.reported; step = first.run.step; later = later.run; reported = refl };
      shows = ap (λ (t : List ℕ). t ++ y) first.shows ∙ append_assoc own rest y ∙ ap (λ (t : List ℕ). own ++ t) later.shows;
    }

-- one stage
next_at : (old new : Run) (text : List ℕ) → PassesStage old new text → RunAt old.quiet (Next ∷ []) (point_of old) (point_of new) text
next_at old new text passes = record {
  reported = passes.lines ++ [];
  run = record {
    next = point_of new;
    own = passes.lines;
    rest = [];
    step = record { soft = passes.soft; passes = passes.passes; is = ap point_of passes.goes_on ∙ here (next_stage old.soft.count old.stage) };
    later = (refl, refl);
    reported = refl;
  };
  shows = passes.shows ∙ sym (append-nil (led (leg_of old.stage) (shown old.quiet (text_of passes.lines))));
}
  where
    here : (next : Option Stage) → point_of (passed_by old passes.soft next) ≡ behind passes.soft next
    here None = refl
    here (Some stage) = refl

passed_quiet : (run : Run) (soft : SoftState) (next : Option Stage) → (passed_by run soft next).quiet ≡ run.quiet
passed_quiet run soft None = refl
passed_quiet run soft (Some stage) = refl

-- what stays over moves: how many legs there are, and the configuration
record Steady (old new : Run) : Type 0 where
  count : new.soft.count ≡ old.soft.count
  config : config_of new ≡ config_of old
  quiet : new.quiet ≡ old.quiet

also : (a b c : Run) → Steady a b → Steady b c → Steady a c
also a b c one two = record { count = two.count ∙ one.count; config = two.config ∙ one.config; quiet = two.quiet ∙ one.quiet }

passed_steady : (run : Run) (soft : SoftState) (next : Option Stage) → soft.count ≡ run.soft.count → active soft ≡ active run.soft → Steady run (passed_by run soft next)
passed_steady run soft None count same = record { count = count; config = ap (λ (p : Planned). p.config) same; quiet = refl }
passed_steady run soft (Some stage) count same = record { count = count; config = ap (λ (p : Planned). p.config) same; quiet = refl }

pass_steady : (old new : Run) (text : List ℕ) → PassesStage old new text → Steady old new
pass_steady old new text passes =
    let steady = stage_steady old.stage old.soft passes.soft passes.lines passes.passes in
    subst (Steady old) (sym passes.goes_on) (passed_steady old passes.soft (next_stage old.soft.count old.stage) steady.0 steady.1)

-- where a run of the command can be
record IsAt (legs : ℕ) (run : Run) : Type 0 where
  count : run.soft.count ≡ legs
  stage : IsStage legs run.stage
  rests : run.left ≡ 0 → run.stage ≡ RncTick

pick : (P : Stage → Type 0) (x y : Stage) → Some x ≡ Some y → P x → P y
pick P x y same holds = let here : x ≡ y = cc in subst P here holds

next_is_stage : (legs : ℕ) (stage next : Stage) → 1 ≤ legs → IsStage legs stage → next_stage legs stage ≡ Some next → IsStage legs next
next_is_stage legs RncTick next some is same = pick (IsStage legs) (IubDown 0 0) next same (some, omega arith)
next_is_stage legs (IubDown leg set) next some is same = elim (eqb_tells set 7) [
  | inl last ↦ pick (IsStage legs) (RadioDown leg) next (rw last.0 at same) is.0
  | inr other ↦ pick (IsStage legs) (IubDown leg (set + 1)) next (rw other.0 at same) (is.0, omega (arith, is.1, other.1))
]
next_is_stage legs (RadioDown leg) next some is same = elim (leb_tells (suc (leg + 1)) legs) [
  | inl more ↦ pick (IsStage legs) (IubDown (leg + 1) 0) next (rw more.0 at same) (more.1, omega arith)
  | inr none ↦ pick (IsStage legs) UeTick next (rw none.0 at same) tt
]
next_is_stage legs UeTick next some is same = pick (IsStage legs) (RadioUp 0) next same some
next_is_stage legs (RadioUp leg) next some is same = elim (leb_tells (suc (leg + 1)) legs) [
  | inl more ↦ pick (IsStage legs) (RadioUp (leg + 1)) next (rw more.0 at same) more.1
  | inr none ↦ pick (IsStage legs) (IubUp 0 0) next (rw none.0 at same) (omega arith, some)
]
next_is_stage legs (IubUp set leg) next some is same = elim (leb_tells (suc (leg + 1)) legs) [
  | inl more ↦ pick (IsStage legs) (IubUp set (leg + 1)) next (rw more.0 at same) (is.0, more.1)
  | inr none ↦ pick (IsStage legs) (Combine set) next (rw none.0 at same) is.0
]
next_is_stage legs (Combine set) next some is same = elim (eqb_tells set 7) [
  | inl last ↦ (let none = rw last.0 at same in cc none)
  | inr other ↦ pick (IsStage legs) (IubUp (set + 1) 0) next (rw other.0 at same) (omega (arith, is, other.1), some)
]

-- one stage is left behind
record Behind (legs : ℕ) (old new : Run) : Type 0 where
  at : IsAt legs new
  less : steps_left legs new.stage new.left + 1 ≡ steps_left legs old.stage old.left

tells_next : (o : Option Stage) → (o ≡ None) ⊎ ((stage : Stage) × (o ≡ Some stage))
tells_next None = inl refl
tells_next (Some stage) = inr (stage, refl)

pass_behind : (legs : ℕ) (old new : Run) (text : List ℕ) → 1 ≤ legs → PassesStage old new text → IsAt legs old → 0 < old.left → Behind legs old new
pass_behind legs old new text some passes at left = elim (tells_next (next_stage legs old.stage)) [
  | inl none ↦ subst (Behind legs old) (sym (is ∙ ap (passed_by old passes.soft) none)) (record {
    at = record { count = count; stage = tt; rests = λ over. refl };
    less = steps_last legs old.stage old.left left none;
  })
  | inr next ↦ subst (Behind legs old) (sym (is ∙ ap (passed_by old passes.soft) next.1)) (record {
    at = record { count = count; stage = next_is_stage legs old.stage next.0 some at.stage next.1; rests = λ over. absurd (omega (arith, left, over)) };
    less = steps_next legs old.stage next.0 old.left left at.stage next.1;
  })
]
  where
    count : passes.soft.count ≡ legs
    count = (stage_steady old.stage old.soft passes.soft passes.lines passes.passes).0 ∙ at.count

    is : new ≡ passed_by old passes.soft (next_stage legs old.stage)
    is = passes.goes_on ∙ ap (λ n. passed_by old passes.soft (next_stage n old.stage)) at.count

-- where stages are left, so are radio frames
some_left : (legs : ℕ) (stage : Stage) (left : ℕ) → 0 < steps_left legs stage left → 0 < left
some_left legs stage left some = elim (eqb_tells left 0) [
  | inl none ↦ (
      let zero_left : steps_left legs stage left ≡ 0 = rw none.0 refl in
      absurd (omega (arith, some, zero_left)))
  | inr other ↦ omega (arith, other.1)
]

stages-append : (n : ℕ) → stages n ++ (Next ∷ []) ≡ stages (suc n)
stages-append zero = refl
stages-append (suc n) = ap (λ (moves : List Move). Next ∷ moves) (stages-append n)

-- so many stages
record StagesOver (legs n : ℕ) (old new : Run) (text : List ℕ) : Type 0 where
  steady : Steady old new
  at : IsAt legs new
  less : steps_left legs new.stage new.left + n ≡ steps_left legs old.stage old.left
  run : RunAt old.quiet (stages n) (point_of old) (point_of new) text

same_run : (old new : Run) → new ≡ old → Steady old new
same_run old new same = record { count = ap (λ (r : Run). r.soft.count) same; config = ap config_of same; quiet = ap (λ (r : Run). r.quiet) same }

resumes_over : (legs n : ℕ) (old new : Run) (text : List ℕ) → 1 ≤ legs → IsAt legs old → n ≤ steps_left legs old.stage old.left → Resumes soft_steps n old new text → StagesOver legs n old new text
resumes_over legs zero old new text some at many resumes = record {
  steady = same_run old new resumes.0;
  at = subst (IsAt legs) (sym resumes.0) at;
  less = ap (λ (r : Run). steps_left legs r.stage r.left + 0) resumes.0 ∙ add-zero (steps_left legs old.stage old.left);
  run = subst (λ (r : Run). RunAt old.quiet [] (point_of old) (point_of r) text) (sym resumes.0) (subst (RunAt old.quiet [] (point_of old) (point_of old)) (sym resumes.1) (none_at old.quiet (point_of old)));
}
resumes_over legs (suc n) old new text some at many (mid, (front, (last, (first, step, whole)))) =
    let before : StagesOver legs n old mid front = resumes_over legs n old mid front some at (omega (arith, many)) first in
    let left : 0 < mid.left = some_left legs mid.stage mid.left (omega (arith, many, before.less)) in
    let next : Behind legs mid new = pass_behind legs mid new last some step before.at left in
    let one : RunAt old.quiet (Next ∷ []) (point_of mid) (point_of new) last = subst (λ quiet. RunAt quiet (Next ∷ []) (point_of mid) (point_of new) last) before.steady.quiet (next_at mid new last step) in
    record {
      steady = also old mid new before.steady (pass_steady mid new last step);
      at = next.at;
      less = omega (arith, before.less, next.less);
      run = subst (RunAt old.quiet (stages (suc n)) (point_of old) (point_of new)) (sym whole)
          (subst (λ (moves : List Move). RunAt old.quiet moves (point_of old) (point_of new) (front ++ last)) (stages-append n) (append_at old.quiet (stages n) (Next ∷ []) (point_of old) (point_of mid) (point_of new) front last before.run one));
    }

-- what a line does
record LineOver (legs : ℕ) (old : Run) (line : List ℕ) (new : Run) (text : List ℕ) : Type 0 where
  moves : List Move
  said : LineSays legs (config_of old) line moves
  run : RunAt old.quiet moves (point_of old) (point_of new) text
  steady : Steady old new
  rests : IsAtRest new

-- how many stages are left at rest, and when there are none
begun_left : (legs : ℕ) (stage : Stage) (count : ℕ) → stage ≡ RncTick → 1 ≤ count → steps_left legs stage count ≡ (10 + 18 * legs) * count
begun_left legs stage count rests some = ap (λ s. steps_left legs s count) rests ∙ (elim (eqb_tells count 0) [
  | inl none ↦ absurd (omega (arith, some, none.1))
  | inr other ↦ rw other.0 (one_more (10 + 18 * legs) (count - 1) ∙ ap (λ n. (10 + 18 * legs) * n) back)
])
  where
    back : suc (count - 1) ≡ count
    back = omega (arith, some)

    one_more : (whole n : ℕ) → whole * n + whole ≡ whole * suc n
    one_more whole n = omega arith

none_left : (legs : ℕ) (stage : Stage) (left : ℕ) → IsStage legs stage → steps_left legs stage left ≡ 0 → left ≡ 0
none_left legs stage left is over = elim (cases_lt 0 left) [
  | inl some ↦ (elim (tells_next (next_stage legs stage)) [
    | inl none ↦ absurd (omega (arith, over, steps_last legs stage left some none))
    | inr next ↦ absurd (omega (arith, over, steps_next legs stage next.0 left some is next.1))
  ])
  | inr none ↦ omega (arith, none)
]

-- a line that asks for radio frames asks for at least one
no_leg_frames : (leg : ℕ) (parsed : ParsedLine) (count : ℕ) → said_of_leg leg parsed ≡ Some (Frames count) → ⊥
no_leg_frames leg (unit dir b text) count is = cc
no_leg_frames leg (block dir c) count is = cc
no_leg_frames leg (free dir c) count is = cc
no_leg_frames leg (flip dir tfci place) count is = cc
no_leg_frames leg (lose dir) count is = cc
no_leg_frames leg (lose_iub dir set) count is = cc
no_leg_frames leg (spoil dir set octet mask) count is = cc
no_leg_frames leg (frame n) count is = cc
no_leg_frames leg (code coding crc bits) count is = cc
no_leg_frames leg (iub set octets) count is = cc
no_leg_frames leg down count is = cc
no_leg_frames leg (phy tfci cells) count is = cc
no_leg_frames leg phy_none count is = cc
no_leg_frames leg tick count is = cc
no_leg_frames leg change count is = cc

frames_parsed : (config : Config) (parsed : ParsedLine) (count : ℕ) → said_by config parsed ≡ Some (Frames count) → parsed ≡ frame count
frames_parsed config (unit dir b text) count is = cc
frames_parsed config (block dir c) count is = cc
frames_parsed config (free dir c) count is = cc
frames_parsed config (flip dir tfci place) count is = cc
frames_parsed config (lose dir) count is = cc
frames_parsed config (lose_iub dir set) count is = cc
frames_parsed config (spoil dir set octet mask) count is = cc
frames_parsed config (frame n) count is = cc
frames_parsed config (code coding crc bits) count is = cc
frames_parsed config (iub set octets) count is = cc
frames_parsed config down count is = cc
frames_parsed config (phy tfci cells) count is = cc
frames_parsed config phy_none count is = cc
frames_parsed config tick count is = cc
frames_parsed config change count is = cc

frames_asked : (legs : ℕ) (config : Config) (line : List ℕ) (leg : Option ℕ) (parsed : ParsedLine) (count : ℕ) → soft_meaning legs config line ≡ Ok (leg, parsed) → said_at config leg parsed ≡ Some (Frames count) → 1 ≤ count
frames_asked legs config line (Some leg) parsed count means says = absurd (no_leg_frames leg parsed count says)
frames_asked legs config line None parsed count means says =
    let same : parsed ≡ frame count = frames_parsed config parsed count says in
    (answer_keeps legs config line (Ok (None, Frame count)) (sym (means ∙ ap (λ (p : ParsedLine). Ok (None, p)) same))).0.0

frames_said : (legs : ℕ) (config : Config) (line : List ℕ) (count : ℕ) → Says legs config line (Frames count) → 1 ≤ count
frames_said legs config line count says = frames_asked legs config line says.leg says.parsed count says.is_parsed says.is

step_over : (legs : ℕ) (old : Run) (line : List ℕ) (new : Run) (text : List ℕ) → 1 ≤ legs → old.soft.count ≡ legs → IsAtRest old → is_empty line ≡ false → (said : Said) → Says old.soft.count (config_of old) line said → (mid : Run) (first rest : List ℕ) → Takes said old mid first → Resumes soft_steps (steps_left mid.soft.count mid.stage mid.left) mid new rest → text ≡ first ++ rest → LineOver legs old line new text
step_over legs old line new text some many rests words (OneEvent event) says mid first rest takes resumes whole =
    let after : IsAtRest mid = record { stage = ap (λ (r : Run). r.stage) takes.goes_on ∙ rests.stage; left = ap (λ (r : Run). r.left) takes.goes_on ∙ rests.left } in
    let none : steps_left mid.soft.count mid.stage mid.left ≡ 0 = rw after.left refl in
    let done : (new ≡ mid) × (rest ≡ []) = subst (λ n. Resumes soft_steps n mid new rest) none resumes in
    let same : new ≡ record old { soft = takes.soft } = done.0 ∙ takes.goes_on in
    let steady = between_stays 0 old.soft event takes.soft takes.lines takes.happens in
    record {
      moves = Between event ∷ [];
      said = rw words (record { said = OneEvent event; says = subst (λ n. Says n (config_of old) line (OneEvent event)) many says; are = refl });
      run = record {
        reported = takes.lines ++ [];
        run = record {
          next = point_of new;
          own = takes.lines;
          rest = [];
          step = record { at_rest = rests.stage; soft = takes.soft; happens = takes.happens; is = ap point_of same ∙ ap (λ stage. record { soft = takes.soft; stage = stage }) rests.stage };
          later = (refl, refl);
          reported = refl;
        };
        shows = whole ∙ ap (λ (t : List ℕ). first ++ t) done.1 ∙ ap (λ (t : List ℕ). t ++ []) takes.shows;
      };
      steady = subst (Steady old) (sym same) (record { count = steady.count; config = ap (λ (p : Planned). p.config) steady.rnc_active; quiet = refl });
      rests = subst IsAtRest (sym done.0) after;
    }
step_over legs old line new text some many rests words (Frames count) says mid first rest takes resumes whole =
    let begun : Run = record old { left = count } in
    let some_frames : 1 ≤ count = frames_said legs (config_of old) line count (subst (λ n. Says n (config_of old) line (Frames count)) many says) in
    let at : IsAt legs begun = record { count = many; stage = subst (IsStage legs) (sym rests.stage) tt; rests = λ over. rests.stage } in
    let next : Behind legs begun mid = pass_behind legs begun mid first some takes at some_frames in
    let steady : Steady begun mid = pass_steady begun mid first takes in
    let over : StagesOver legs (steps_left legs mid.stage mid.left) mid new rest =
    resumes_over legs (steps_left legs mid.stage mid.left) mid new rest some next.at (omega arith) (subst (λ n. Resumes soft_steps (steps_left n mid.stage mid.left) mid new rest) next.at.count resumes) in
    let all : suc (steps_left legs mid.stage mid.left) ≡ (10 + 18 * legs) * count = omega (arith, next.less, begun_left legs old.stage count rests.stage some_frames) in
    let none : new.left ≡ 0 = none_left legs new.stage new.left over.at.stage (omega (arith, over.less)) in
    record {
      moves = stages ((10 + 18 * legs) * count);
      said = rw words (record { said = Frames count; says = subst (λ n. Says n (config_of old) line (Frames count)) many says; are = refl });
      run = subst (RunAt old.quiet (stages ((10 + 18 * legs) * count)) (point_of old) (point_of new)) (sym whole)
          (subst (λ n. RunAt old.quiet (stages n) (point_of old) (point_of new) (first ++ rest)) all
          (append_at old.quiet (Next ∷ []) (stages (steps_left legs mid.stage mid.left)) (point_of old) (point_of mid) (point_of new) first rest (next_at begun mid first takes)
          (subst (λ quiet. RunAt quiet (stages (steps_left legs mid.stage mid.left)) (point_of mid) (point_of new) rest) steady.quiet over.run)));
      steady = also old mid new (record { count = steady.count; config = steady.config; quiet = steady.quiet }) over.steady;
      rests = record { stage = over.at.rests none; left = none };
    }

line_over : (legs : ℕ) (old : Run) (line : List ℕ) (new : Run) (text : List ℕ) → 1 ≤ legs → old.soft.count ≡ legs → IsAtRest old → HandlesLine soft_lines old line new text → LineOver legs old line new text
line_over legs old line new text some many rests handles = cases (is_empty line) refl
  where
    cases : (b : Bool) → is_empty line ≡ b → LineOver legs old line new text
    cases true empty =
        let own : (new ≡ old) × (text ≡ []) = rw empty at handles in
        record {
          moves = [];
          said = rw empty refl;
          run = subst (λ (r : Run). RunAt old.quiet [] (point_of old) (point_of r) text) (sym own.0) (subst (RunAt old.quiet [] (point_of old) (point_of old)) (sym own.1) (none_at old.quiet (point_of old)));
          steady = same_run old new own.0;
          rests = subst IsAtRest (sym own.0) rests;
        }
    cases false words =
        let own : LineSteps soft_steps old line new text = rw words at handles in
        step_over legs old line new text some many rests words own.handles.said own.handles.says own.mid own.first own.rest own.handles.takes own.resumes own.whole

-- and what lines do
record LinesOver (legs : ℕ) (old : Run) (lines : List (List ℕ)) (new : Run) (text : List ℕ) : Type 0 where
  moves : List Move
  said : AreSaid legs (config_of old) lines moves
  run : RunAt old.quiet moves (point_of old) (point_of new) text
  steady : Steady old new
  rests : IsAtRest new

lines_over : (legs : ℕ) (old : Run) (lines : List (List ℕ)) (new : Run) (text : List ℕ) → 1 ≤ legs → old.soft.count ≡ legs → IsAtRest old → HandlesLines soft_lines old lines new text → LinesOver legs old lines new text
lines_over legs old [] new text some many rests handles = record {
  moves = [];
  said = refl;
  run = subst (λ (r : Run). RunAt old.quiet [] (point_of old) (point_of r) text) (sym handles.0) (subst (RunAt old.quiet [] (point_of old) (point_of old)) (sym handles.1) (none_at old.quiet (point_of old)));
  steady = same_run old new handles.0;
  rests = subst IsAtRest (sym handles.0) rests;
}
lines_over legs old (line ∷ lines) new text some many rests (mid, (first, (rest, (handles, more, whole)))) =
    let one : LineOver legs old line mid first = line_over legs old line mid first some many rests handles in
    let others : LinesOver legs mid lines new rest = lines_over legs mid lines new rest some (one.steady.count ∙ many) one.rests more in
    record {
      moves = one.moves ++ others.moves;
      said = record { own = one.moves; rest = others.moves; first = one.said; later = subst (λ config. AreSaid legs config lines others.moves) one.steady.config others.said; all = refl };
      run = subst (RunAt old.quiet (one.moves ++ others.moves) (point_of old) (point_of new)) (sym whole)
          (append_at old.quiet one.moves others.moves (point_of old) (point_of mid) (point_of new) first rest one.run (subst (λ quiet. RunAt quiet others.moves (point_of mid) (point_of new) rest) one.steady.quiet others.run));
      steady = also old mid new one.steady others.steady;
      rests = others.rests;
    }

pub lines_run : (old : Run) (lines : List (List ℕ)) (new : Run) (text : List ℕ) → 1 ≤ old.soft.count → IsAtRest old → HandlesLines soft_lines old lines new text → IsRunOf old lines new text
lines_run old lines new text some rests handles =
    let over : LinesOver old.soft.count old lines new text = lines_over old.soft.count old lines new text some refl rests handles in
    record {
      moves = over.moves;
      said = over.said;
      reported = over.run.reported;
      run = over.run.run;
      shows = over.run.shows;
      quiet = over.steady.quiet;
      rests = over.rests;
    }
