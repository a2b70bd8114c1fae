-- Bytes of report on units.
use Rattle.std.proofs.Common.{◌≡◌, ◌≤◌, ◌+◌, ◌*◌, ◌++◌, ℕ, List, [], ◌∷◌, Bool, true, false, cond, length, arith, refl}
use Rattle.std.specs.Prelude.{nat_lt}
use Rattle.std.proofs.lemmas.Bool.{ltb-true, ltb-false}
use Rattle.dch_steptext.specs.ReceiverBytes.{part_bytes, unit_bytes, units_bytes}

-- a unit that ends is told out of what its octets and its indicator bring
pub unit_paid : (x : ℕ) (xs : List ℕ) → unit_bytes (x ∷ xs) ≤ part_bytes (x ∷ xs) + 6
unit_paid x xs = go (nat_lt 1500 (length (x ∷ xs))) refl
  where
    go : (c : Bool) → nat_lt 1500 (length (x ∷ xs)) ≡ c → cond c 17 (13 + 2 * length (x ∷ xs)) ≤ part_bytes (x ∷ xs) + 6
    go true e = omega (arith, ltb-true 1500 (length (x ∷ xs)) e)
    go false e = omega (arith, ltb-false 1500 (length (x ∷ xs)) e)

pub units_more : (units more : List (List ℕ)) → units_bytes (units ++ more) ≡ units_bytes units + units_bytes more
units_more [] more = omega arith
units_more (unit ∷ units) more = omega (arith, units_more units more)
