-- The radio frames of a line, stage by stage: how many have begun, and which configuration is active.
use Rattle.std.proofs.Common.{◌≡◌, ◌<◌, ◌≤◌, ◌+◌, ◌-◌, ◌*◌, ◌∙◌, ℕ, zero, suc, List, [], arith, ap, inl, inr, refl, subst, sym, Option, Some, None}
use Rattle.std.specs.Prelude.{◌⊎◌}
use Rattle.std.proofs.lemmas.Bool.Decides.{eqb_tells}
use Rattle.dch_accept.specs.Plans.{Planned}
use Rattle.dch_linkcmd.specs.Stepping.{Resumes}
use Rattle.dch_link.specs.RncState.{State as RncState}
use Rattle.dch_link.specs.Changing.{Changes}
use Rattle.dch_link.specs.Link.{LinkState, active}
use Rattle.dch_link.specs.Passing.{IsStage, next_stage, stages_left}
use Rattle.dch_link.specs.declared.stage.Stage.{Stage}
use Rattle.dch_link.specs.declared.stage.Stage.TheVariants.{RncTick, IubDown, RadioDown, UeTick, RadioUp, IubUp}
use Rattle.dch_linkcmd.specs.Rules.{Begins, MayChange, PassesNext, PassesStage, Waits, link_steps}
use Rattle.dch_linkcmd.specs.Run.{Run, config_of, passed, passed_by, steps_left}
use Rattle.dch_linkcmd.proofs.Stages.{some_same, steps_next}
use Rattle.dch_linkcmd.proofs.Staying.{pass_second, pass_stays}
use Rattle.dch_lines.specs.declared.later.Later.{Later}

-- how many radio frames have begun before a stage
abbrev pub begun : Stage → ℕ → ℕ
begun RncTick frames = frames
begun (IubDown set) frames = frames + 1
begun RadioDown frames = frames + 1
begun UeTick frames = frames + 1
begun RadioUp frames = frames + 1
begun (IubUp set) frames = frames + 1

-- what a stage does to the count of radio frames
pub record Counts (old new : Run) : Type 0 where
  pub there : IsStage new.stage
  pub begins : begun new.stage new.frames ≡ old.frames + 1
  pub total : new.frames + new.left ≡ old.frames + old.left
  pub rests : new.left ≡ 0 → new.stage ≡ RncTick
  pub steps : steps_left new.stage new.left + 1 ≡ steps_left old.stage old.left

-- the stage behind one of a radio frame is a later one of it
begun_on : (one next : Stage) (frames : ℕ) → begun one frames ≡ frames + 1 → Some one ≡ Some next → begun next frames ≡ frames + 1
begun_on one next frames is same = subst (λ (s : Stage). begun s frames ≡ frames + 1) (some_same one next same) is

begun_next : (stage next : Stage) (frames : ℕ) → next_stage stage ≡ Some next → begun next frames ≡ frames + 1
begun_next RncTick next frames same = begun_on (IubDown 0) next frames refl same
begun_next (IubDown set) next frames same = elim (eqb_tells set 7) [
  | inl last ↦ begun_on RadioDown next frames refl (rw last.0 at same)
  | inr other ↦ begun_on (IubDown (set + 1)) next frames refl (rw other.0 at same)
]
begun_next RadioDown next frames same = begun_on UeTick next frames refl same
begun_next UeTick next frames same = begun_on RadioUp next frames refl same
begun_next RadioUp next frames same = begun_on (IubUp 0) next frames refl same
begun_next (IubUp set) next frames same = elim (eqb_tells set 7) [
  | inl last ↦ (let none = rw last.0 at same in cc none)
  | inr other ↦ begun_on (IubUp (set + 1)) next frames refl (rw other.0 at same)
]

there_on : (one next : Stage) → IsStage one → Some one ≡ Some next → IsStage next
there_on one next is same = subst IsStage (some_same one next same) is

there_next : (stage next : Stage) → IsStage stage → next_stage stage ≡ Some next → IsStage next
there_next RncTick next is same = there_on (IubDown 0) next (omega arith) same
there_next (IubDown set) next is same = elim (eqb_tells set 7) [
  | inl last ↦ there_on RadioDown next tt (rw last.0 at same)
  | inr other ↦ there_on (IubDown (set + 1)) next (omega (arith, is, other.1)) (rw other.0 at same)
]
there_next RadioDown next is same = there_on UeTick next tt same
there_next UeTick next is same = there_on RadioUp next tt same
there_next RadioUp next is same = there_on (IubUp 0) next (omega arith) same
there_next (IubUp set) next is same = elim (eqb_tells set 7) [
  | inl last ↦ (let none = rw last.0 at same in cc none)
  | inr other ↦ there_on (IubUp (set + 1)) next (omega (arith, is, other.1)) (rw other.0 at same)
]

-- the last stage
one_left : (stage : Stage) → next_stage stage ≡ None → stages_left stage ≡ 1
one_left RncTick none = cc none
one_left (IubDown set) none = elim (eqb_tells set 7) [
  | inl last ↦ (let some = rw last.0 at none in cc some)
  | inr other ↦ (let some = rw other.0 at none in cc some)
]
one_left RadioDown none = cc none
one_left UeTick none = cc none
one_left RadioUp none = cc none
one_left (IubUp set) none = elim (eqb_tells set 7) [
  | inl last ↦ omega (arith, last.1)
  | inr other ↦ (let some = rw other.0 at none in cc some)
]

steps_over : (stage : Stage) (left : ℕ) → 0 < left → next_stage stage ≡ None → steps_left RncTick (left - 1) + 1 ≡ steps_left stage left
steps_over stage left some none = elim (eqb_tells left 0) [
  | inl nothing ↦ absurd (omega (arith, some, nothing.1))
  | inr other ↦ elim (eqb_tells (left - 1) 0) [
    | inl last ↦ rw (other.0, last.0) (omega (arith, one_left stage none, last.1))
    | inr more ↦ rw (other.0, more.0) (omega (arith, one_left stage none, more.1))
  ]
]

pub counts_stage : (old new : Run) (link : LinkState) → 0 < old.left → IsStage old.stage → new ≡ passed old link → Counts old new
counts_stage old new link some is on = by (next_stage old.stage) refl
  where
    by : (next : Option Stage) → next_stage old.stage ≡ next → Counts old new
    by (Some stage) same =
        let now : new ≡ record old { link = link; stage = stage } = on ∙ ap (passed_by old link) same in
        subst (λ (r : Run). Counts old r) (sym now) (record {
          there = there_next old.stage stage is same;
          begins = begun_next old.stage stage old.frames same;
          total = refl;
          rests = λ none. absurd (omega (arith, some, none));
          steps = steps_next old.stage stage old.left some is same;
        })
    by None same =
        let now : new ≡ record old { link = record link { damage = [] }; stage = RncTick; left = old.left - 1; frames = old.frames + 1 } = on ∙ ap (passed_by old link) same in
        subst (λ (r : Run). Counts old r) (sym now) (record {
          there = tt;
          begins = refl;
          total = omega (arith, some);
          rests = λ none. refl;
          steps = steps_over old.stage old.left some same;
        })

-- a second configuration that was to come is still, and its radio frame has not begun
pub record StillWaits (run now : Run) : Type 0 where
  pub second : now.second ≡ run.second
  pub config : config_of now ≡ config_of run
  pub soon : (later : Later) → run.second ≡ Some later → begun now.stage now.frames ≤ later.frame

-- or its radio frame has begun, and it is active
pub record IsActive (run now : Run) : Type 0 where
  pub later : Later
  pub was : run.second ≡ Some later
  pub begins : later.frame < begun now.stage now.frames
  pub none : now.second ≡ None
  pub config : config_of now ≡ later.accepted.config

-- where a line has led that asks for radio frames
pub record IsAmid (run : Run) (count : ℕ) (now : Run) : Type 0 where
  pub there : IsStage now.stage
  pub total : now.frames + now.left ≡ run.frames + count
  pub rests : now.left ≡ 0 → now.stage ≡ RncTick
  pub active : StillWaits run now ⊎ IsActive run now

-- a second configuration that becomes active is that of the nodes
changes_active : (later : Planned) (old new : LinkState) → Changes later old new → active new ≡ later
changes_active later old new changes =
    ap active changes.ue_changes.is ∙ ap active changes.node_b_changes.is ∙ ap active changes.rnc_changes.is ∙ ap (λ course. course.state.planned) changes.rnc_changes.goes.is
    ∙ ap (λ (s : RncState). s.planned) changes.rnc_changes.goes.step.state

begun_least : (stage : Stage) (frames : ℕ) → begun stage frames ≤ frames + 1
begun_least RncTick frames = omega arith
begun_least (IubDown set) frames = omega arith
begun_least RadioDown frames = omega arith
begun_least UeTick frames = omega arith
begun_least RadioUp frames = omega arith
begun_least (IubUp set) frames = omega arith

some_later : (a b : Later) (r : Option Later) → r ≡ Some a → r ≡ Some b → b ≡ a
some_later a b r one two = cc

-- a radio frame that is not yet due has not begun behind the stage either
later_still : (second : Option Later) (stage : Stage) (frames : ℕ) (later : Later) → second ≡ Some later → ((other : Later) → ¬ Begins second stage frames other) → begun stage frames ≤ later.frame → frames + 1 ≤ later.frame
later_still second RncTick frames later waits undue soon = elim (eqb_tells frames later.frame) [
  | inl same ↦ absurd (undue later (record { due = record { waits = waits; now = same.1 }; first = refl }))
  | inr other ↦ omega (arith, soon, other.1)
]
later_still second (IubDown set) frames later waits undue soon = soon
later_still second RadioDown frames later waits undue soon = soon
later_still second UeTick frames later waits undue soon = soon
later_still second RadioUp frames later waits undue soon = soon
later_still second (IubUp set) frames later waits undue soon = soon

-- one stage more
pub amid_next : (run now new : Run) (count : ℕ) (text : List ℕ) → IsAmid run count now → 0 < now.left → PassesNext now new text → IsAmid run count new × (steps_left new.stage new.left + 1 ≡ steps_left now.stage now.left)
amid_next run now new count text is some passes = by passes.changes is.active
  where
    counted : (mid : Run) → mid.left ≡ now.left → mid.stage ≡ now.stage → PassesStage mid new text → Counts mid new
    counted mid left stage stage_passes = counts_stage mid new stage_passes.link (subst (λ n. 0 < n) (sym left) some) (subst IsStage (sym stage) is.there) stage_passes.goes_on

    steps : (mid : Run) → mid.left ≡ now.left → mid.stage ≡ now.stage → Counts mid new → steps_left new.stage new.left + 1 ≡ steps_left now.stage now.left
    steps mid left stage counts = counts.steps ∙ ap (λ n. steps_left mid.stage n) left ∙ ap (λ (s : Stage). steps_left s now.left) stage

    by : MayChange now passes.mid → StillWaits run now ⊎ IsActive run now → IsAmid run count new × (steps_left new.stage new.left + 1 ≡ steps_left now.stage now.left)
    by (inl makes) (inl waits) =
        let left : passes.mid.left ≡ now.left = ap (λ (r : Run). r.left) makes.goes_on in
        let stage : passes.mid.stage ≡ now.stage = ap (λ (r : Run). r.stage) makes.goes_on in
        let frames : passes.mid.frames ≡ now.frames = ap (λ (r : Run). r.frames) makes.goes_on in
        let counts : Counts passes.mid new = counted passes.mid left stage passes.passes in
        let config : config_of passes.mid ≡ makes.later.accepted.config = ap config_of makes.goes_on ∙ ap (λ (p : Planned). p.config) (changes_active makes.later.accepted now.link makes.link makes.changes) in (
          record {
            there = counts.there;
            total = counts.total ∙ ap (λ n. n + passes.mid.left) frames ∙ ap (λ n. now.frames + n) left ∙ is.total;
            rests = counts.rests;
            active = inr (record {
              later = makes.later;
              was = sym waits.second ∙ makes.begins.due.waits;
              begins = omega (arith, counts.begins, frames, makes.begins.due.now);
              none = pass_second passes.mid new text passes.passes ∙ ap (λ (r : Run). r.second) makes.goes_on;
              config = pass_stays passes.mid new text passes.passes ∙ config;
            });
          },
          steps passes.mid left stage counts,
        )
    by (inl makes) (inr on) = let waits : None ≡ Some makes.later = sym on.none ∙ makes.begins.due.waits in cc waits
    by (inr waits) on =
        let left : passes.mid.left ≡ now.left = ap (λ (r : Run). r.left) waits.same in
        let stage : passes.mid.stage ≡ now.stage = ap (λ (r : Run). r.stage) waits.same in
        let frames : passes.mid.frames ≡ now.frames = ap (λ (r : Run). r.frames) waits.same in
        let second : passes.mid.second ≡ now.second = ap (λ (r : Run). r.second) waits.same in
        let counts : Counts passes.mid new = counted passes.mid left stage passes.passes in
        let config : config_of new ≡ config_of now = pass_stays passes.mid new text passes.passes ∙ ap config_of waits.same in
        let still : new.second ≡ now.second = pass_second passes.mid new text passes.passes ∙ second in
        let begins : begun new.stage new.frames ≡ now.frames + 1 = counts.begins ∙ ap (λ n. n + 1) frames in (
          record {
            there = counts.there;
            total = counts.total ∙ ap (λ n. n + passes.mid.left) frames ∙ ap (λ n. now.frames + n) left ∙ is.total;
            rests = counts.rests;
            active = goes_on on config still begins waits;
          },
          steps passes.mid left stage counts,
        )
      where
        goes_on : StillWaits run now ⊎ IsActive run now → config_of new ≡ config_of now → new.second ≡ now.second → begun new.stage new.frames ≡ now.frames + 1 → Waits now passes.mid → StillWaits run new ⊎ IsActive run new
        goes_on (inl still) config second begins waits = inl (record {
          second = second ∙ still.second;
          config = config ∙ still.config;
          soon = λ later was. subst (λ n. n ≤ later.frame) (sym begins) (later_still now.second now.stage now.frames later (still.second ∙ was) waits.undue (still.soon later was));
        })
        goes_on (inr on) config second begins waits = inr (record {
          later = on.later;
          was = on.was;
          begins = omega (arith, on.begins, begins, begun_least now.stage now.frames);
          none = second ∙ on.none;
          config = config ∙ on.config;
        })

-- nothing is left of a line where no radio frame is
none_left : (stage : Stage) (left : ℕ) → IsStage stage → steps_left stage left ≡ 0 → left ≡ 0
none_left stage left is none = elim (eqb_tells left 0) [
  | inl nothing ↦ nothing.1
  | inr other ↦ (let all : 20 * (left - 1) + stages_left stage ≡ 0 = rw other.0 at none in absurd (omega (arith, all, some_left stage is)))
]
  where
    some_left : (stage : Stage) → IsStage stage → 1 ≤ stages_left stage
    some_left RncTick is = omega arith
    some_left (IubDown set) is = omega (arith, is)
    some_left RadioDown is = omega arith
    some_left UeTick is = omega arith
    some_left RadioUp is = omega arith
    some_left (IubUp set) is = omega (arith, is)

some_left_of : (stage : Stage) (left : ℕ) → 0 < steps_left stage left → 0 < left
some_left_of stage left some = elim (eqb_tells left 0) [
  | inl nothing ↦ (let none : 0 < 0 = rw nothing.0 at some in absurd (omega (arith, none)))
  | inr other ↦ omega (arith, other.1)
]

-- so many stages more
pub amid_all : (n : ℕ) (run start now : Run) (count : ℕ) (text : List ℕ) → IsAmid run count start → n ≤ steps_left start.stage start.left → Resumes link_steps n start now text
    → IsAmid run count now × (steps_left now.stage now.left + n ≡ steps_left start.stage start.left)
amid_all zero run start now count text is few resumes = (subst (IsAmid run count) (sym resumes.0) is, let none : steps_left start.stage start.left + 0 ≡ steps_left start.stage start.left = omega arith in ap (λ (r : Run). steps_left r.stage r.left + 0) resumes.0 ∙ none)
amid_all (suc n) run start now count text is few (mid, (front, (last, (first, step, whole)))) =
    let before = amid_all n run start mid count front is (omega (arith, few)) first in
    let some : 0 < mid.left = some_left_of mid.stage mid.left (omega (arith, before.1, few)) in
    let next = amid_next run mid now count last before.0 some step in
    (next.0, omega (arith, next.1, before.1))

-- the line is over when all have passed
pub record IsOver (run : Run) (count : ℕ) (now : Run) : Type 0 where
  pub stage : now.stage ≡ RncTick
  pub left : now.left ≡ 0
  pub frames : now.frames ≡ run.frames + count
  pub active : StillWaits run now ⊎ IsActive run now

pub amid_over : (run mid now : Run) (count : ℕ) (text : List ℕ) → IsAmid run count mid → Resumes link_steps (steps_left mid.stage mid.left) mid now text → IsOver run count now
amid_over run mid now count text is resumes =
    let all = amid_all (steps_left mid.stage mid.left) run mid now count text is (omega arith) resumes in
    let none : steps_left now.stage now.left ≡ 0 = omega (arith, all.1) in
    let left : now.left ≡ 0 = none_left now.stage now.left all.0.there none in
    record {
      stage = all.0.rests left;
      left = left;
      frames = omega (arith, all.0.total, left);
      active = all.0.active;
    }
