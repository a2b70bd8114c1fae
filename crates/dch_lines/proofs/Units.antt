-- The texts of units that were judged.
use Rattle.std.proofs.Common.{◌≡◌, ◌⊎◌, ◌≤◌, ℕ, List, Bool, true, false, length, arith, refl, inl, inr}
use Rattle.std.specs.Prelude.{◌&&◌, nat_le}
use Rattle.std.proofs.lemmas.Bool.Decides.{nat_tests}
use Rattle.dch_types.specs.declared.bearer.Mode.{Mode}
use Rattle.dch_types.specs.declared.bearer.Mode.TheVariants.{Tm, Um, Am}
use Rattle.dch_script.specs.Code.{is_bits, longest}
use Rattle.dch_script.specs.Texts.{is_octets, is_unit}

-- of a transparent bearer
pub unit_of_bits : (mode : Mode) (text : List ℕ) → mode ≡ Tm → is_unit mode text ≡ true → is_bits 5000 text ≡ true
unfolding is_unit
unit_of_bits mode text is good = rw is at good

left : (a b : Bool) → (a && b) ≡ true → a ≡ true
left true b h = refl
left false b h = cc

within : (text : List ℕ) → (nat_le (length text) 4000 && is_octets text) ≡ true → length text ≤ longest
within text good =
    let few : nat_le (length text) 4000 ≡ true = left (nat_le (length text) 4000) (is_octets text) good in
    let short : length text ≤ 4000 = grind (arith, nat_tests) in
    omega (arith, short)

-- of another one
pub unit_of_octets : (mode : Mode) (text : List ℕ) → (mode ≡ Um) ⊎ (mode ≡ Am) → is_unit mode text ≡ true → length text ≤ longest
unfolding is_unit
unit_of_octets mode text (inl is) good = within text (rw is at good)
unit_of_octets mode text (inr is) good = within text (rw is at good)
