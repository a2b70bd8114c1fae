-- The bits of a set of places.
use Rattle.std.proofs.Common.{◌≡◌, ◌≢◌, ◌+◌, ◌-◌, ◌*◌, ◌/◌, ◌%◌, ◌^◌, ◌<◌, ◌≤◌, ◌∙◌, ℕ, List, Bool, true, false, length, set, get_or, replicate, arith, ap, ap₂, refl, sym}
use Rattle.std.specs.Prelude.{◌==◌, bit_or, bit_and, nat_lt}
use Rattle.std.specs.Int.{bit_at, bit_not, w64}
use Rattle.std.proofs.lemmas.Bool.{eqb-true, eqb-false, ltb-true, ltb-false}
use Rattle.std.proofs.lemmas.List.{get_or-replicate, get_or-set_same, get_or-set_other}
use Rattle.std.proofs.lemmas.Nat.{shr-shr}
use Rattle.std.proofs.lemmas.Nat.Bits.{bit_at-zero, bit_at_above, bit_at_clear_other, bit_at_clear_same, bit_at_set_other, bit_at_set_same}
use Rattle.dch_retx.specs.RequestSet.{RequestSet, has, is_in}

-- no bit is 1 where all words are 0
pub has_none : (n : ℕ) → has (replicate 64 0) n ≡ false
has_none n =
    let inside : n / 64 % 64 < 64 = omega arith in
    ap (λ w. bit_at w (n % 64) == 1) (get_or-replicate 64 (n / 64 % 64) 0 0 inside) ∙ ap (λ b. b == 1) (bit_at-zero (n % 64))

-- the bit of a number is that of the word that is put in
has_here : (words : List ℕ) (n w : ℕ) → length words ≡ 64 → has (set words (n / 64 % 64) w) n ≡ (bit_at w (n % 64) == 1)
has_here words n w size =
    let inside : n / 64 % 64 < length words = omega arith in
    ap (λ v. bit_at v (n % 64) == 1) (get_or-set_same words (n / 64 % 64) w 0 inside)

-- the bits of other numbers stay where the word that is put in differs in one bit
has_other : (words : List ℕ) (n m w : ℕ) → length words ≡ 64 → n % 4096 ≢ m % 4096 → ((b : ℕ) → b < 64 → b ≢ n % 64 → bit_at w b ≡ bit_at (get_or words (n / 64 % 64) 0) b) → has (set words (n / 64 % 64) w) m ≡ has words m
has_other words n m w size apart same = go (n / 64 % 64 == m / 64 % 64) refl
  where
    go : (b : Bool) → (n / 64 % 64 == m / 64 % 64) ≡ b → has (set words (n / 64 % 64) w) m ≡ has words m
    go true e =
        let q : n / 64 % 64 ≡ m / 64 % 64 = eqb-true (n / 64 % 64) (m / 64 % 64) e in
        let inside : n / 64 % 64 < length words = omega arith in
        let bit : m % 64 < 64 = omega arith in
        let differs : m % 64 ≢ n % 64 = λ r. apart (omega arith) in
        ap (λ k. bit_at (get_or (set words (n / 64 % 64) w) k 0) (m % 64) == 1) (sym q)
        ∙ (ap (λ v. bit_at v (m % 64) == 1) (get_or-set_same words (n / 64 % 64) w 0 inside)
        ∙ (ap (λ v. v == 1) (same (m % 64) bit differs)
        ∙ ap (λ k. bit_at (get_or words k 0) (m % 64) == 1) q))
    go false e = ap (λ v. bit_at v (m % 64) == 1) (get_or-set_other words (n / 64 % 64) (m / 64 % 64) w 0 (λ r. eqb-false (n / 64 % 64) (m / 64 % 64) e (sym r)))

-- the word of a number with its bit set
abbrev pub with_bit : List ℕ → ℕ → ℕ
with_bit words n = bit_or (get_or words (n / 64 % 64) 0) (1 * 2 ^ (n % 64) % 2 ^ 64)

-- the same with its bit cleared
abbrev pub without_bit : List ℕ → ℕ → ℕ
without_bit words n = bit_and (get_or words (n / 64 % 64) 0) (bit_not w64 (1 * 2 ^ (n % 64) % 2 ^ 64))

-- a number that came in is there
pub inserted_here : (words : List ℕ) (n : ℕ) → length words ≡ 64 → has (set words (n / 64 % 64) (with_bit words n)) n ≡ true
inserted_here words n size =
    let bit : n % 64 < 64 = omega arith in
    has_here words n (with_bit words n) size ∙ ap (λ b. b == 1) (bit_at_set_same w64 (get_or words (n / 64 % 64) 0) (n % 64) bit)

-- the others stay
pub inserted_other : (words : List ℕ) (n m : ℕ) → length words ≡ 64 → n % 4096 ≢ m % 4096 → has (set words (n / 64 % 64) (with_bit words n)) m ≡ has words m
inserted_other words n m size apart =
    let bit : n % 64 < 64 = omega arith in
    has_other words n m (with_bit words n) size apart (λ b _ r. bit_at_set_other w64 (get_or words (n / 64 % 64) 0) (n % 64) bit b r)

-- a number that went isn't there
pub removed_here : (words : List ℕ) (n : ℕ) → length words ≡ 64 → has (set words (n / 64 % 64) (without_bit words n)) n ≡ false
removed_here words n size =
    let bit : n % 64 < 64 = omega arith in
    has_here words n (without_bit words n) size ∙ ap (λ b. b == 1) (bit_at_clear_same w64 (get_or words (n / 64 % 64) 0) (n % 64) bit)

-- the others stay
pub removed_other : (words : List ℕ) (n m : ℕ) → length words ≡ 64 → n % 4096 ≢ m % 4096 → has (set words (n / 64 % 64) (without_bit words n)) m ≡ has words m
removed_other words n m size apart =
    let bit : n % 64 < 64 = omega arith in
    has_other words n m (without_bit words n) size apart (λ b l r. bit_at_clear_other w64 (get_or words (n / 64 % 64) 0) (n % 64) bit b l r)

-- the numbers of two places differ
pub apart : (first i j : ℕ) → i < 4096 → j < 4096 → j ≢ i → (first + i) % 4096 ≢ (first + j) % 4096
apart first i j a b r = λ e. r (omega arith)

-- the bits of a word from one on
pub rest_bits : (words : List ℕ) (n k : ℕ) → n % 64 + k < 64 → (bit_at (get_or words (n / 64 % 64) 0 / 2 ^ (n % 64)) k == 1) ≡ has words (n + k)
rest_bits words n k within =
    let word : n / 64 % 64 ≡ (n + k) / 64 % 64 = omega arith in
    let bit : n % 64 + k ≡ (n + k) % 64 = omega arith in
    ap (λ v. v % 2 == 1) (shr-shr (get_or words (n / 64 % 64) 0) (n % 64) k) ∙ ap₂ (λ w b. bit_at (get_or words w 0) b == 1) word bit

-- no more than 64 of them
pub rest_above : (w s k : ℕ) → w < 2 ^ 64 → 64 ≤ s + k → bit_at (w / 2 ^ s) k ≡ 0
rest_above w s k below above = ap (λ v. v % 2) (shr-shr w s k) ∙ bit_at_above w 64 (s + k) below above

-- what the rest of a word says of the places from one on
pub record IsRest (words : List ℕ) (n rest : ℕ) : Type 0 where
  pub bits : (k : ℕ) → n % 64 + k < 64 → (bit_at rest k == 1) ≡ has words (n + k)
  pub above : (k : ℕ) → 64 ≤ n % 64 + k → bit_at rest k ≡ 0

-- a bit that is 1 is one of the word's
found_within : (words : List ℕ) (n rest t : ℕ) → IsRest words n rest → bit_at rest t ≡ 1 → n % 64 + t < 64
found_within words n rest t is here = go (nat_lt (n % 64 + t) 64) refl
  where
    go : (c : Bool) → nat_lt (n % 64 + t) 64 ≡ c → n % 64 + t < 64
    go true e = ltb-true (n % 64 + t) 64 e
    go false e = let none : bit_at rest t ≡ 0 = is.above t (ltb-false (n % 64 + t) 64 e) in omega arith

-- no place before the first bit that is 1 is in the set
pub found_before : (words : List ℕ) (first i rest t j : ℕ) → IsRest words (first + i) rest → bit_at rest t ≡ 1 → ((k : ℕ) → k < t → bit_at rest k ≡ 0) → i ≤ j → j < i + t → has words (first + j) ≡ false
found_before words first i rest t j is here before a b =
    let place : first + j ≡ first + i + (j - i) = omega arith in
    let inside : (first + i) % 64 + (j - i) < 64 = omega (arith, found_within words (first + i) rest t is here) in
    ap (λ n. has words n) place ∙ (sym (is.bits (j - i) inside) ∙ ap (λ v. v == 1) (before (j - i) (omega arith)))

-- the place of that bit is
pub found_here : (words : List ℕ) (first i rest t : ℕ) → IsRest words (first + i) rest → bit_at rest t ≡ 1 → has words (first + (i + t)) ≡ true
found_here words first i rest t is here =
    let place : first + (i + t) ≡ first + i + t = omega arith in
    let inside : (first + i) % 64 + t < 64 = found_within words (first + i) rest t is here in
    ap (λ n. has words n) place ∙ (sym (is.bits t inside) ∙ ap (λ v. v == 1) here)

-- no place of a word is where its rest is 0
pub found_none : (words : List ℕ) (first i rest j : ℕ) → IsRest words (first + i) rest → rest ≡ 0 → i ≤ j → j < i + (64 - (first + i) % 64) → has words (first + j) ≡ false
found_none words first i rest j is none a b =
    let place : first + j ≡ first + i + (j - i) = omega arith in
    let inside : (first + i) % 64 + (j - i) < 64 = omega arith in
    ap (λ n. has words n) place ∙ (sym (is.bits (j - i) inside) ∙ (ap (λ w. bit_at w (j - i) == 1) none ∙ ap (λ v. v == 1) (bit_at-zero (j - i))))

-- two runs of places that are not in a set are one
pub none_joined : (set : RequestSet) (from i to : ℕ) → ((j : ℕ) → from ≤ j → j < i → is_in set j ≡ false) → ((j : ℕ) → i ≤ j → j < to → is_in set j ≡ false) → (j : ℕ) → from ≤ j → j < to → is_in set j ≡ false
none_joined set from i to below above j a b = go (nat_lt j i) refl
  where
    go : (c : Bool) → nat_lt j i ≡ c → is_in set j ≡ false
    go true e = below j a (ltb-true j i e)
    go false e = above j (ltb-false j i e) b
