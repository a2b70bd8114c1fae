-- What the encoder takes in, and what it has written after each step.
use Rattle.std.proofs.Common.{◌≡◌, ◌+◌, ◌-◌, ◌<◌, ◌≤◌, ℕ, zero, suc, List, [], ◌∷◌, Bool, true, false, length, get_or, arith, refl, ap, sym, ◌∙◌, ⊎_elim}
use Rattle.std.specs.Prelude.{nat_le, slice_set}
use Rattle.std.specs.List.{list_all}
use Rattle.std.proofs.lemmas.List.Edits.{fill_by_more}
use Rattle.std.proofs.lemmas.List.Folds.{list_all_at}
use Rattle.std.proofs.lemmas.Bool.Decides.{leb_tells}
use Rattle.dch_bits.specs.declared.bit.Bit.{Bit}
use Rattle.dch_bits.specs.declared.bit.Bit.TheVariants.{Zero, One}
use Rattle.dch_bits.specs.Bits.{number_of}
use Rattle.std.proofs.lemmas.List.{get_or_past}
use Rattle.std.proofs.lemmas.Bool.{cases_lt}
use Rattle.dch_coding.specs.Inputs.{Feeds}

abbrev pub is_zero : Bit → Bool
is_zero Zero = true
is_zero One = false

-- a list of zeros alone has zeros at all places
pub zero_everywhere : (bits : List Bit) (i : ℕ) → list_all is_zero bits ≡ true → get_or bits i Zero ≡ Zero
zero_everywhere [] i all = refl
zero_everywhere (Zero ∷ bits) zero all = refl
zero_everywhere (Zero ∷ bits) (suc i) all = zero_everywhere bits i all
zero_everywhere (One ∷ bits) i all = cc

-- one more place that holds its value
pub place_more : (f : ℕ → Bit) (out : List Bit) (i : ℕ) (b : Bit) → i < length out → b ≡ f i → ((j : ℕ) → j < i → get_or out j Zero ≡ f j) → (j : ℕ) → j < i + 1 → get_or (slice_set out i b) j Zero ≡ f j
place_more f out i b within same before j below = rw same (fill_by_more f out i Zero within before j below)

-- each of the distances is at most so many
pub near_at : (most : ℕ) (taps : List ℕ) (i : ℕ) → list_all (λ d. nat_le d most) taps ≡ true → i < length taps → get_or taps i 0 ≤ most
near_at most taps i near within =
    ⊎_elim
    (λ (below : (nat_le (get_or taps i 0) most ≡ true) × (get_or taps i 0 ≤ most)). below.1)
    (λ (above : (nat_le (get_or taps i 0) most ≡ false) × (most < get_or taps i 0)). let far : list_all (λ d. nat_le d most) taps ≡ false = list_all_at (λ d. nat_le d most) taps i 0 within above.0 in cc)
    (leb_tells (get_or taps i 0) most)

pub number_le : (b : Bit) → number_of b ≤ 1
number_le Zero = omega arith
number_le One = omega arith

-- eight zeros, a block and zeros feed the encoder
pub feeds_placed : (inputs block : List Bit) → ((j : ℕ) → j < 8 → get_or inputs j Zero ≡ Zero) → ((j : ℕ) → j < length block → get_or inputs (8 + j) Zero ≡ get_or block j Zero) → ((j : ℕ) → 8 + length block ≤ j → get_or inputs j Zero ≡ Zero) → Feeds inputs block
feeds_placed inputs block before within past = record {
  at = λ k d step near. ⊎_elim
      (λ (reached : (nat_le d k ≡ true) × (d ≤ k)). rw reached.0 (ap number_of (placed (k - d) (k + 8 - d) (omega arith))))
      (λ (early : (nat_le d k ≡ false) × (k < d)). rw early.0 (ap number_of (before (k + 8 - d) (omega arith))))
      (leb_tells d k);
}
  where
    placed : (i at : ℕ) → at ≡ 8 + i → get_or inputs at Zero ≡ get_or block i Zero
    placed i at same = rw same (⊎_elim (λ (inside : i < length block). within i inside) (λ (after : length block ≤ i). past (8 + i) (omega arith) ∙ sym (get_or_past block i Zero after)) (cases_lt i (length block)))
