-- The octets of the values that wait.
use Rattle.std.proofs.Common.{◌≡◌, ◌≤◌, ◌+◌, ◌-◌, ◌∙◌, ℕ, List, [], ◌∷◌, Option, Some, None, arith, drop, length, refl, ap, sym, length-drop}
use Rattle.std.specs.Prelude.{is_some, slice_get}
use Rattle.std.proofs.lemmas.Bool.{false≢true}
use Rattle.dch_handle.specs.declared.told.Told.{Told}
use Rattle.dch_handle.specs.Telling.{all_long}

abbrev pub long_of : Option Told → ℕ
long_of None = 0
long_of (Some told) = told.length

first_long : (t : Told) (told : List Told) (first : Told) → slice_get (t ∷ told) 0 ≡ Some first → t.length ≡ first.length
first_long t told first is = ap long_of is

-- those of the first value are among them
pub first_within : (told : List Told) (first : Told) → slice_get told 0 ≡ Some first → first.length ≤ all_long told
first_within [] first is = absurd (false≢true (ap (λ (found : Option Told). is_some found) is))
first_within (t ∷ told) first is = omega (arith, first_long t told first is)

-- and without them those of the others are left
pub others_left : (told : List Told) (letters : List ℕ) (first : Told) → slice_get told 0 ≡ Some first → length letters ≡ all_long told → length (drop first.length letters) ≡ all_long (drop 1 told)
others_left [] letters first is all = absurd (false≢true (ap (λ (found : Option Told). is_some found) is))
others_left (t ∷ told) letters first is all = omega (arith, first_long t told first is, all, length-drop first.length letters)
