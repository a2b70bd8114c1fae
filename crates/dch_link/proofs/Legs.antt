-- The legs, one of which changes or is new.
use Rattle.std.proofs.Common.{◌≡◌, ◌≢◌, ◌<◌, ◌++◌, ◌∙◌, ℕ, List, [], ◌∷◌, length, get_or, arith, sym, ap, subst, inl, inr, length-append, get_or-set_same, get_or-set_other}
use Rattle.std.specs.Prelude.{slice_set}
use Rattle.std.proofs.lemmas.Bool.Decides.{eqb_tells}
use Rattle.std.proofs.lemmas.List.{get_or_append_left, get_or_push, length-set}
use Rattle.dch_link.specs.SoftValues.{EachLeg, IsLeg, LegParts}

-- a fact of each leg still holds where leg k changes and keeps it
pub set_leg : (P : ℕ → LegParts → Type 0) (legs : List LegParts) (k : ℕ) (new : LegParts) → k < length legs → P k new → ((j : ℕ) (leg : LegParts) → j ≢ k → IsLeg legs j leg → P j leg) → EachLeg P (slice_set legs k new)
set_leg P legs k new inside own others = λ j leg is. elim (eqb_tells j k) [
  | inl same ↦ (let here : leg ≡ new = is.1 ∙ ap (λ n. get_or (slice_set legs k new) n leg) same.1 ∙ get_or-set_same legs k new leg inside in
      subst (λ n. P n leg) (sym same.1) (subst (λ (l : LegParts). P k l) (sym here) own))
  | inr other ↦ others j leg other.1 (subst (λ n. j < n) (length-set legs k new) is.0, is.1 ∙ get_or-set_other legs k j new leg other.1)
]

-- and where one more leg has it
pub new_leg : (P : ℕ → LegParts → Type 0) (legs : List LegParts) (new : LegParts) → EachLeg P legs → P (length legs) new → EachLeg P (legs ++ new ∷ [])
new_leg P legs new each own = λ k leg is. elim (eqb_tells k (length legs)) [
  | inl same ↦ (let here : leg ≡ new = is.1 ∙ get_or_push legs new leg k (sym same.1) in
      subst (λ n. P n leg) (sym same.1) (subst (λ (l : LegParts). P (length legs) l) (sym here) own))
  | inr other ↦ (let apart : k ≢ length legs = other.1 in let early : k < length legs = omega (arith, is.0, length-append legs (new ∷ [])) in
      each k leg (early, is.1 ∙ get_or_append_left legs (new ∷ []) leg k early))
]
