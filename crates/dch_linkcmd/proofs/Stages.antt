-- How many stages are left.
use Rattle.std.proofs.Common.{◌≡◌, ◌<◌, ◌+◌, ◌*◌, ℕ, arith, subst, inl, inr, None, Some}
use Rattle.std.proofs.lemmas.Bool.Decides.{eqb_tells}
use Rattle.dch_link.specs.Passing.{IsStage, next_stage, stages_left}
use Rattle.dch_link.specs.declared.stage.Stage.{Stage}
use Rattle.dch_link.specs.declared.stage.Stage.TheVariants.{RncTick, IubDown, RadioDown, UeTick, RadioUp, IubUp}
use Rattle.dch_linkcmd.specs.Run.{steps_left}

pub some_same : (one other : Stage) → Some one ≡ Some other → one ≡ other
some_same one other same = cc

on_next : (stage one next : Stage) → stages_left one + 1 ≡ stages_left stage → Some one ≡ Some next → stages_left next + 1 ≡ stages_left stage
on_next stage one next is same = subst (λ (s : Stage). stages_left s + 1 ≡ stages_left stage) (some_same one next same) is

-- one stage less is left behind each
pub one_less : (stage next : Stage) → IsStage stage → next_stage stage ≡ Some next → stages_left next + 1 ≡ stages_left stage
one_less RncTick next is same = on_next RncTick (IubDown 0) next (omega arith) same
one_less (IubDown set) next is same = elim (eqb_tells set 7) [
  | inl last ↦ on_next (IubDown set) RadioDown next (omega (arith, last.1)) (rw last.0 at same)
  | inr other ↦ on_next (IubDown set) (IubDown (set + 1)) next (omega (arith, is)) (rw other.0 at same)
]
one_less RadioDown next is same = on_next RadioDown UeTick next (omega arith) same
one_less UeTick next is same = on_next UeTick RadioUp next (omega arith) same
one_less RadioUp next is same = on_next RadioUp (IubUp 0) next (omega arith) same
one_less (IubUp set) next is same = elim (eqb_tells set 7) [
  | inl last ↦ (let none = rw last.0 at same in cc none)
  | inr other ↦ on_next (IubUp set) (IubUp (set + 1)) next (omega (arith, is)) (rw other.0 at same)
]

pub steps_next : (stage next : Stage) (left : ℕ) → 0 < left → IsStage stage → next_stage stage ≡ Some next → steps_left next left + 1 ≡ steps_left stage left
steps_next stage next left some is same = elim (eqb_tells left 0) [
  | inl none ↦ absurd (omega (arith, some, none.1))
  | inr other ↦ rw other.0 (omega (arith, one_less stage next is same))
]

-- some stage is left, with the one that is on
pub some_left : (stage : Stage) → IsStage stage → 0 < stages_left stage
some_left RncTick is = omega arith
some_left (IubDown set) is = omega (arith, is)
some_left RadioDown is = omega arith
some_left UeTick is = omega arith
some_left RadioUp is = omega arith
some_left (IubUp set) is = omega (arith, is)

-- one stage is left where none comes after it
pub last_one : (stage : Stage) → next_stage stage ≡ None → stages_left stage ≡ 1
last_one RncTick none = cc none
last_one (IubDown set) none = elim (eqb_tells set 7) [
  | inl last ↦ (let some = rw last.0 at none in cc some)
  | inr other ↦ (let some = rw other.0 at none in cc some)
]
last_one RadioDown none = cc none
last_one UeTick none = cc none
last_one RadioUp none = cc none
last_one (IubUp set) none = elim (eqb_tells set 7) [
  | inl last ↦ omega (arith, last.1)
  | inr other ↦ (let some = rw other.0 at none in cc some)
]

-- how many are left of so many radio frames, of which none is on yet
pub tick_left : (left : ℕ) → steps_left RncTick left ≡ 20 * left
tick_left left = elim (eqb_tells left 0) [
  | inl none ↦ rw none.0 (omega (arith, none.1))
  | inr some ↦ rw some.0 (omega (arith, some.1))
]
