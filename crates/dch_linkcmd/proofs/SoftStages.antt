-- How many stages are left.
use Rattle.std.proofs.Common.{◌≡◌, ◌<◌, ◌≤◌, ◌+◌, ◌*◌, ◌-◌, ◌∙◌, ℕ, zero, suc, arith, ap, sym, subst, inl, inr, None, Some}
use Rattle.std.proofs.lemmas.Bool.Decides.{eqb_tells, leb_tells}
use Rattle.dch_link.specs.SoftPassing.{IsStage, next_stage, stages_left}
use Rattle.dch_link.specs.declared.soft_stage.Stage.{Stage}
use Rattle.dch_link.specs.declared.soft_stage.Stage.TheVariants.{RncTick, IubDown, RadioDown, UeTick, RadioUp, IubUp, Combine}
use Rattle.dch_linkcmd.specs.SoftRun.{steps_left}

some_same : (one other : Stage) → Some one ≡ Some other → one ≡ other
some_same one other same = cc

on_next : (legs : ℕ) (stage one next : Stage) → stages_left legs one + 1 ≡ stages_left legs stage → Some one ≡ Some next → stages_left legs next + 1 ≡ stages_left legs stage
on_next legs stage one next is same = subst (λ (s : Stage). stages_left legs s + 1 ≡ stages_left legs stage) (some_same one next same) is

-- a product has each factor at least, where the other one isn't 0
at_least : (n m : ℕ) → 0 < n → m ≤ n * m
at_least zero m some = absurd (omega (arith, some))
at_least (suc n) m some = omega arith

one_leg_less : (product leg : ℕ) → leg + 1 ≤ product → product - (leg + 1) + 1 ≡ product - leg
one_leg_less product leg inside = omega (arith, inside)

last_leg_less : (product leg legs : ℕ) → leg + 1 ≡ legs → legs ≤ product → product - legs + 1 ≡ product - leg
last_leg_less product leg legs last inside = omega (arith, last, inside)

one_set_less : (rest legs : ℕ) → rest - 0 + 1 ≡ (legs + 1) + rest - legs
one_set_less rest legs = omega arith

-- the stages of the sets that are left, of which one goes
sets_left : (set legs : ℕ) → set < 8 → (8 - set) * (legs + 1) ≡ (legs + 1) + (8 - (set + 1)) * (legs + 1)
sets_left set legs few = let one : 8 - set ≡ suc (8 - (set + 1)) = omega (arith, few) in ap (λ n. n * (legs + 1)) one ∙ suc_times (8 - (set + 1)) (legs + 1)
  where
    suc_times : (n m : ℕ) → suc n * m ≡ m + n * m
    suc_times n m = omega arith

-- one stage less is left behind each
pub one_less : (legs : ℕ) (stage next : Stage) → IsStage legs stage → next_stage legs stage ≡ Some next → stages_left legs next + 1 ≡ stages_left legs stage
one_less legs RncTick next is same = on_next legs RncTick (IubDown 0 0) next (omega arith) same
one_less legs (IubDown leg set) next is same = elim (eqb_tells set 7) [
  | inl last ↦ on_next legs (IubDown leg set) (RadioDown leg) next (omega (arith, last.1, is.0)) (rw last.0 at same)
  | inr other ↦ on_next legs (IubDown leg set) (IubDown leg (set + 1)) next (omega (arith, is.0, is.1, other.1)) (rw other.0 at same)
]
one_less legs (RadioDown leg) next is same = elim (leb_tells (suc (leg + 1)) legs) [
  | inl more ↦ on_next legs (RadioDown leg) (IubDown (leg + 1) 0) next (omega (arith, more.1)) (rw more.0 at same)
  | inr none ↦ on_next legs (RadioDown leg) UeTick next (omega (arith, none.1, is)) (rw none.0 at same)
]
one_less legs UeTick next is same = on_next legs UeTick (RadioUp 0) next (omega arith) same
one_less legs (RadioUp leg) next is same = elim (leb_tells (suc (leg + 1)) legs) [
  | inl more ↦ on_next legs (RadioUp leg) (RadioUp (leg + 1)) next (omega (arith, more.1)) (rw more.0 at same)
  | inr none ↦ on_next legs (RadioUp leg) (IubUp 0 0) next (omega (arith, none.1, is)) (rw none.0 at same)
]
one_less legs (IubUp set leg) next is same =
    let few : legs + 1 ≤ (8 - set) * (legs + 1) = at_least (8 - set) (legs + 1) (omega (arith, is.0)) in
    elim (leb_tells (suc (leg + 1)) legs) [
      | inl more ↦ on_next legs (IubUp set leg) (IubUp set (leg + 1)) next (one_leg_less ((8 - set) * (legs + 1)) leg (omega (arith, few, is.1))) (rw more.0 at same)
      | inr none ↦ on_next legs (IubUp set leg) (Combine set) next (last_leg_less ((8 - set) * (legs + 1)) leg legs (omega (arith, none.1, is.1)) (omega (arith, few))) (rw none.0 at same)
    ]
one_less legs (Combine set) next is same = elim (eqb_tells set 7) [
  | inl last ↦ (let none = rw last.0 at same in cc none)
  | inr other ↦ on_next legs (Combine set) (IubUp (set + 1) 0) next (one_set_less ((8 - (set + 1)) * (legs + 1)) legs ∙ ap (λ n. n - legs) (sym (sets_left set legs is))) (rw other.0 at same)
]

pub steps_next : (legs : ℕ) (stage next : Stage) (left : ℕ) → 0 < left → IsStage legs stage → next_stage legs stage ≡ Some next → steps_left legs next left + 1 ≡ steps_left legs stage left
steps_next legs stage next left some is same = elim (eqb_tells left 0) [
  | inl none ↦ absurd (omega (arith, some, none.1))
  | inr other ↦ rw other.0 (added_one ((10 + 18 * legs) * (left - 1)) (stages_left legs next) (stages_left legs stage) (one_less legs stage next is same))
]
  where
    added_one : (whole one all : ℕ) → one + 1 ≡ all → whole + one + 1 ≡ whole + all
    added_one whole one all is = omega (arith, is)

-- one stage is left where none comes after it
pub last_one : (legs : ℕ) (stage : Stage) → next_stage legs stage ≡ None → stages_left legs stage ≡ 1
last_one legs RncTick none = cc none
last_one legs (IubDown leg set) none = elim (eqb_tells set 7) [
  | inl last ↦ (let some = rw last.0 at none in cc some)
  | inr other ↦ (let some = rw other.0 at none in cc some)
]
last_one legs (RadioDown leg) none = elim (leb_tells (suc (leg + 1)) legs) [
  | inl more ↦ (let some = rw more.0 at none in cc some)
  | inr last ↦ (let some = rw last.0 at none in cc some)
]
last_one legs UeTick none = cc none
last_one legs (RadioUp leg) none = elim (leb_tells (suc (leg + 1)) legs) [
  | inl more ↦ (let some = rw more.0 at none in cc some)
  | inr last ↦ (let some = rw last.0 at none in cc some)
]
last_one legs (IubUp set leg) none = elim (leb_tells (suc (leg + 1)) legs) [
  | inl more ↦ (let some = rw more.0 at none in cc some)
  | inr last ↦ (let some = rw last.0 at none in cc some)
]
last_one legs (Combine set) none = elim (eqb_tells set 7) [
  | inl last ↦ ap (λ s. (8 - s) * (legs + 1) - legs) last.1 ∙ only legs
  | inr other ↦ (let some = rw other.0 at none in cc some)
]
  where
    only : (n : ℕ) → 1 * (n + 1) - n ≡ 1
    only n = omega arith

one_more : (whole n : ℕ) → whole * n + whole ≡ whole * suc n
one_more whole n = omega arith

none_times : (whole : ℕ) → 0 ≡ whole * 0
none_times whole = omega arith

pub all_left : (legs n : ℕ) → steps_left legs RncTick n ≡ (10 + 18 * legs) * n
all_left legs n = elim (eqb_tells n 0) [
  | inl none ↦ rw none.0 (none_times (10 + 18 * legs) ∙ ap (λ k. (10 + 18 * legs) * k) (sym none.1))
  | inr some ↦ (let before : suc (n - 1) ≡ n = omega (arith, some.1) in rw some.0 (one_more (10 + 18 * legs) (n - 1) ∙ ap (λ k. (10 + 18 * legs) * k) before))
]

-- some stage is left, with the one that is on
pub some_left : (legs : ℕ) (stage : Stage) → IsStage legs stage → 0 < stages_left legs stage
some_left legs RncTick is = omega arith
some_left legs (IubDown leg set) is = omega (arith, is.0, is.1)
some_left legs (RadioDown leg) is = omega (arith, is)
some_left legs UeTick is = omega arith
some_left legs (RadioUp leg) is = omega (arith, is)
some_left legs (IubUp set leg) is = more ((8 - set) * (legs + 1)) leg (omega (arith, at_least (8 - set) (legs + 1) (omega (arith, is.0)), is.1))
  where
    more : (product n : ℕ) → n < product → 0 < product - n
    more product n less = omega (arith, less)
some_left legs (Combine set) is = more ((8 - set) * (legs + 1)) legs (omega (arith, at_least (8 - set) (legs + 1) (omega (arith, is))))
  where
    more : (product n : ℕ) → n < product → 0 < product - n
    more product n less = omega (arith, less)

-- the last stage of a radio frame is left behind
pub steps_last : (legs : ℕ) (stage : Stage) (left : ℕ) → 0 < left → next_stage legs stage ≡ None → steps_left legs RncTick (left - 1) + 1 ≡ steps_left legs stage left
steps_last legs stage left some none = elim (eqb_tells left 0) [
  | inl zero_left ↦ absurd (omega (arith, some, zero_left.1))
  | inr other ↦ rw other.0 (ap (λ n. n + 1) (all_left legs (left - 1)) ∙ ap (λ n. (10 + 18 * legs) * (left - 1) + n) (sym (last_one legs stage none)))
]
