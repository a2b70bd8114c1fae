-- Radio frames that a handler passes, stage by stage, as steps of its runs.
use Rattle.std.proofs.Common.{◌≡◌, ◌<◌, ◌+◌, ◌++◌, ◌∙◌, ℕ, List, [], Bool, true, false, Some, None, arith, refl, sym, subst, inl, inr}
use Rattle.std.specs.Prelude.{◌⊎◌, Option}
use Rattle.std.proofs.lemmas.Bool.Decides.{eqb_tells}
use Rattle.dch_lines.specs.Semantics.{Adds, Leads}
use Rattle.dch_lines.proofs.Filtering.{Joined, Nothing}
use Rattle.dch_linkcmd.specs.Stepping.{GoesBy, Resumes, Stepped}
use Rattle.dch_linkcmd.proofs.Stepping.{resumes_on}

-- so many steps of each run that a handler stands for, whose text is written
abbrev pub Passed : {S C P : Type 0} → (S → C → Type 0) → (P → List ℕ → P → Type 0) → Stepped S → ℕ → C → C → P → P → Type 0
Passed represents writes steps n old new before after = Leads represents old new (λ a b. Adds writes (Resumes steps n a b) before after)

pub passed_none : {S C P : Type 0} (represents : S → C → Type 0) (writes : P → List ℕ → P → Type 0) (steps : Stepped S) → Nothing writes → (old : C) (page : P) → Passed represents writes steps 0 old old page page
passed_none represents writes steps nothing old page = λ run is. (run, is, record { more = []; handles = (refl, refl); wrote = nothing page })

-- one step
pub passed_one : {S C P : Type 0} (represents : S → C → Type 0) (writes : P → List ℕ → P → Type 0) (steps : Stepped S) (old new : C) (before after : P) → Leads represents old new (λ a b. Adds writes (steps.resumes a b) before after) → Passed represents writes steps 1 old new before after
passed_one represents writes steps old new before after leads = λ run is.
    let one = leads run is in
    (one.0, one.1, record { more = one.2.more; handles = (run, ([], (one.2.more, ((refl, refl), one.2.handles, refl)))); wrote = one.2.wrote })

-- some steps, and then more
pub passed_on : {S C P : Type 0} (represents : S → C → Type 0) (writes : P → List ℕ → P → Type 0) (steps : Stepped S) → Joined writes → (n m k : ℕ) (old mid new : C) (before between after : P) → m + n ≡ k → Passed represents writes steps n old mid before between → Passed represents writes steps m mid new between after → Passed represents writes steps k old new before after
passed_on represents writes steps joined n m k old mid new before between after sum first later = λ run is.
    let one = first run is in
    let two = later one.0 one.1 in (
      two.0,
      two.1,
      record {
        more = one.2.more ++ two.2.more;
        handles = subst (λ (t : ℕ). Resumes steps t run two.0 (one.2.more ++ two.2.more)) sum (resumes_on steps n m run one.0 two.0 one.2.more two.2.more one.2.handles two.2.handles);
        wrote = joined before between after one.2.more two.2.more one.2.wrote two.2.wrote;
      },
    )

-- behind k of all stages of a radio frame one of them is on; behind the last one the next radio frame is, of which
-- there were so many
pub record InFrame {A : Type 0} (stages_left : A → ℕ) (first : A) (all count k : ℕ) (stage : A) (left : ℕ) : Type 0 where
  pub on : k < all → (stages_left stage + k ≡ all) × (left ≡ count)
  pub over : k ≡ all → (stage ≡ first) × (left + 1 ≡ count)

pub frame_begun : {A : Type 0} (stages_left : A → ℕ) (first : A) (all count : ℕ) (stage : A) → 0 < all → stages_left first ≡ all → stage ≡ first → InFrame stages_left first all count 0 stage count
frame_begun {A} stages_left first all count stage some whole begun = subst (λ (s : A). InFrame stages_left first all count 0 s count) (sym begun) (record {
  on = λ _. (omega (arith, whole), refl);
  over = λ none. absurd (omega (arith, none, some));
})

pub frame_next : {A : Type 0} (stages_left : A → ℕ) (first : A) (all count k : ℕ) (stage now : A) (left later : ℕ) (next : Option A) → k < all → InFrame stages_left first all count k stage left
    → ((s : A) → next ≡ Some s → now ≡ s → (stages_left s + 1 ≡ stages_left stage) × (0 < stages_left s)) → (next ≡ None → stages_left stage ≡ 1) → GoesBy first next left now later → InFrame stages_left first all count (k + 1) now later
frame_next {A} stages_left first all count k stage now left later (Some s) less frame some none goes =
    let here = frame.on less in
    let one = some s refl goes.0 in
    subst (λ (t : A). InFrame stages_left first all count (k + 1) t later) (sym goes.0) (record {
      on = λ _. (omega (arith, here.0, one.0), goes.1 ∙ here.1);
      over = λ last. absurd (omega (arith, here.0, one.0, one.1, last));
    })
frame_next {A} stages_left first all count k stage now left later None less frame some none goes =
    let here = frame.on less in
    let last = none refl in
    record {
      on = λ more. absurd (omega (arith, here.0, last, more));
      over = λ _. (goes.0, goes.1 ∙ here.1);
    }

-- a line is done where no radio frame is left, and otherwise where no more can be written a part of it is
pub may_end : {Whole Part : Type 0} (broken : Bool) (left : ℕ) → (broken ≡ false → left ≡ 0) → (left ≡ 0 → Whole) → (0 < left → Part) → Whole ⊎ ((broken ≡ true) × Part)
may_end false left ended whole part = inl (whole (ended refl))
may_end true left ended whole part = elim (eqb_tells left 0) [
  | inl none ↦ inl (whole none.1)
  | inr some ↦ inr (refl, part (omega (arith, some.1)))
]
