-- Blocks in text order, and by the place of their first One.
use Rattle.std.proofs.Common.{◌≡◌, ◌<◌, ◌≤◌, ℕ, zero, suc, List, [], ◌∷◌, length, get_or, arith, refl}
use Rattle.dch_bits.specs.declared.bit.Bit.{Bit}
use Rattle.dch_bits.specs.declared.bit.Bit.TheVariants.{Zero, One}
use Rattle.dch_trellis.specs.Nearest.{IsFirst}

-- how many zeros a block begins with
abbrev pub leading : List Bit → ℕ
leading [] = 0
leading (Zero ∷ bits) = suc (leading bits)
leading (One ∷ bits) = 0

pub leading-le : (bits : List Bit) → leading bits ≤ length bits
leading-le [] = omega arith
leading-le (Zero ∷ bits) = omega (arith, leading-le bits)
leading-le (One ∷ bits) = omega arith

pub leading-zero : (bits : List Bit) (i : ℕ) → i < leading bits → get_or bits i Zero ≡ Zero
leading-zero [] i before = refl
leading-zero (Zero ∷ bits) zero before = refl
leading-zero (Zero ∷ bits) (suc i) before = leading-zero bits i (omega arith)
leading-zero (One ∷ bits) i before = absurd (omega arith)

pub leading-one : (bits : List Bit) → leading bits < length bits → get_or bits (leading bits) Zero ≡ One
leading-one [] inside = absurd (omega arith)
leading-one (Zero ∷ bits) inside = leading-one bits (omega arith)
leading-one (One ∷ bits) inside = refl

-- a block that comes no later than another: where it has a One after what both share, so has the other
pub first_when : (bits other : List Bit) → ((j : ℕ) → get_or bits j Zero ≡ One → ((i : ℕ) → i < j → get_or bits i Zero ≡ get_or other i Zero) → get_or other j Zero ≡ One) → IsFirst bits other
first_when [] other ones = tt
first_when (b ∷ bits) [] ones = tt_at b bits
  where
    tt_at : (b : Bit) (bits : List Bit) → IsFirst (b ∷ bits) []
    tt_at Zero bits = tt
    tt_at One bits = tt
first_when (Zero ∷ bits) (Zero ∷ other) ones = first_when bits other (λ j one same. ones (suc j) one (shifted Zero bits other j same))
  where
    shifted : (b : Bit) (bits other : List Bit) (j : ℕ) → ((i : ℕ) → i < j → get_or bits i Zero ≡ get_or other i Zero) → (i : ℕ) → i < suc j → get_or (b ∷ bits) i Zero ≡ get_or (b ∷ other) i Zero
    shifted b bits other j same zero below = refl
    shifted b bits other j same (suc i) below = same i (omega arith)
first_when (Zero ∷ bits) (One ∷ other) ones = tt
first_when (One ∷ bits) (Zero ∷ other) ones =
    let clash : Zero ≡ One = ones 0 refl (λ i below. absurd (omega arith)) in
    cc
first_when (One ∷ bits) (One ∷ other) ones = first_when bits other (λ j one same. ones (suc j) one (shifted One bits other j same))
  where
    shifted : (b : Bit) (bits other : List Bit) (j : ℕ) → ((i : ℕ) → i < j → get_or bits i Zero ≡ get_or other i Zero) → (i : ℕ) → i < suc j → get_or (b ∷ bits) i Zero ≡ get_or (b ∷ other) i Zero
    shifted b bits other j same zero below = refl
    shifted b bits other j same (suc i) below = same i (omega arith)
