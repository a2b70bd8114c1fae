-- A number as a register of bits.
use Rattle.std.proofs.Common.{◌≡◌, ◌+◌, ◌-◌, ◌*◌, ◌/◌, ◌%◌, ◌^◌, ◌<◌, ◌≤◌, ℕ, zero, suc, List, [], ◌∷◌, ◌++◌, length, replicate, reverse, fold, get_or, add-one, arith, refl, ap, ap₂, sym, ◌∙◌}
use Rattle.std.specs.Int.{bit_at}
use Rattle.std.specs.Int.Bits.{bit_xor}
use Rattle.std.proofs.lemmas.Nat.{xor_lt, xor_shr, mod-pow-add, div-add-mod', mod_below, div_below, le-div, pow_pos}
use Rattle.std.proofs.lemmas.Nat.Bits.{bit_at_xor, bit_at-zero, bit_at-suc, bit_at_lowest, bit_at-lt, bit_at-pow_same, bit_at-pow_other}
use Rattle.std.proofs.Math.Nat.{pow-suc, mod-eq_of_lt}
use Rattle.std.proofs.lemmas.List.{length-replicate, reverse-append, get_or-reverse}
use Rattle.dch_bits.specs.declared.bit.Bit.{Bit}
use Rattle.dch_bits.specs.declared.bit.Bit.TheVariants.{Zero, One}
use Rattle.dch_bits.specs.Bits.{bit_of_number, number_of, plus}
use Rattle.dch_bits.proofs.Places.{number_of-bit_of_number}
use Rattle.dch_coding.specs.Parity.{add, scale, IsParity, number_of_bits}
use Rattle.dch_coding.specs.Register.{lowest_bits, HoldsParity}
use Rattle.dch_coding.proofs.Products.{plus_zero, plus_back, length-add, add_zeros, parity_none, parity_more}

pub length-lowest_bits : (count n : ℕ) → length (lowest_bits count n) ≡ count
unfolding lowest_bits
length-lowest_bits zero n = refl
length-lowest_bits (suc count) n = omega (arith, length-lowest_bits count n)

-- bits add without carry
bit_of_number-sum : (a b : ℕ) → a < 2 → b < 2 → bit_of_number ((a + b) % 2) ≡ plus (bit_of_number a) (bit_of_number b)
bit_of_number-sum zero zero h k = refl
bit_of_number-sum zero (suc zero) h k = refl
bit_of_number-sum (suc zero) zero h k = refl
bit_of_number-sum (suc zero) (suc zero) h k = refl
bit_of_number-sum (suc (suc a)) b h k = absurd (omega arith)
bit_of_number-sum zero (suc (suc b)) h k = absurd (omega arith)
bit_of_number-sum (suc zero) (suc (suc b)) h k = absurd (omega arith)

pub lowest_bits-xor : (count a b : ℕ) → lowest_bits count (bit_xor a b) ≡ add (lowest_bits count a) (lowest_bits count b)
unfolding lowest_bits
lowest_bits-xor zero a b = refl
lowest_bits-xor (suc count) a b =
    let here : bit_of_number (bit_at (bit_xor a b) count) ≡ plus (bit_of_number (bit_at a count)) (bit_of_number (bit_at b count)) =
    ap bit_of_number (bit_at_xor a b count) ∙ bit_of_number-sum (bit_at a count) (bit_at b count) (bit_at-lt a count) (bit_at-lt b count) in
    ap₂ (λ (x : Bit) (xs : List Bit). x ∷ xs) here (lowest_bits-xor count a b)

-- twice a number has one more zero
pub lowest_bits-double : (count n : ℕ) → lowest_bits (suc count) (2 * n) ≡ lowest_bits count n ++ Zero ∷ []
unfolding lowest_bits
lowest_bits-double zero n =
    let even : bit_at (2 * n) 0 ≡ 0 = bit_at_lowest (2 * n) ∙ omega arith in
    ap (λ m. bit_of_number m ∷ []) even
lowest_bits-double (suc count) n =
    let half : 2 * n / 2 ≡ n = omega arith in
    let here : bit_at (2 * n) (suc count) ≡ bit_at n count = bit_at-suc (2 * n) count ∙ ap (λ m. bit_at m count) half in
    ap₂ (λ (m : ℕ) (xs : List Bit). bit_of_number m ∷ xs) here (lowest_bits-double count n)

-- to add a list twice is to add nothing
add_back : (u v : List Bit) → length u ≡ length v → add (add u v) v ≡ u
add_back [] v same = refl
add_back (x ∷ u) [] same = absurd (omega arith)
add_back (x ∷ u) (y ∷ v) same = rw (plus_back x y, add_back u v (omega arith)) refl

-- below a power of two all bits are zero
pub lowest_bits-pow : (count k : ℕ) → count ≤ k → lowest_bits count (2 ^ k) ≡ replicate count Zero
unfolding lowest_bits
lowest_bits-pow zero k below = refl
lowest_bits-pow (suc count) k below =
    ap₂ (λ (m : ℕ) (xs : List Bit). bit_of_number m ∷ xs) (bit_at-pow_other k count (λ same. omega arith)) (lowest_bits-pow count k (omega arith))

pow_bits : (k : ℕ) → lowest_bits (suc k) (2 ^ k) ≡ One ∷ replicate k Zero
unfolding lowest_bits
pow_bits k = ap₂ (λ (m : ℕ) (xs : List Bit). bit_of_number m ∷ xs) (bit_at-pow_same k) (lowest_bits-pow k k (omega arith))

pub lowest_bits-zero : (count : ℕ) → lowest_bits count 0 ≡ replicate count Zero
unfolding lowest_bits
lowest_bits-zero zero = refl
lowest_bits-zero (suc count) = ap₂ (λ (m : ℕ) (xs : List Bit). bit_of_number m ∷ xs) (bit_at-zero count) (lowest_bits-zero count)

-- the bits of a polynomial
pub terms_bits : (degree terms : ℕ) → terms / 2 ^ degree ≡ 1 → lowest_bits (suc degree) terms ≡ One ∷ lowest_bits degree terms
unfolding lowest_bits
terms_bits degree terms first = rw first refl

-- the parity of no block is zero
pub holds_none : (degree terms : ℕ) → terms / 2 ^ degree ≡ 1 → HoldsParity degree terms [] 0
holds_none degree terms first =
    let zeros : lowest_bits degree 0 ≡ replicate (length (lowest_bits degree terms)) Zero = rw length-lowest_bits (lowest_bits-zero degree) in
    record {
      small = pow_pos degree;
      parity = rw (terms_bits degree terms first, zeros) (parity_none (lowest_bits degree terms));
    }

-- the register moved up by a place, plus an input bit at the place of the first term
abbrev pub with_input : Bit → ℕ → ℕ → ℕ
with_input Zero degree register = 2 * register
with_input One degree register = bit_xor (2 * register) (2 ^ degree)

pub with_input-lt : (x : Bit) (degree register : ℕ) → register < 2 ^ degree → with_input x degree register < 2 * 2 ^ degree
with_input-lt Zero degree register small = omega arith
with_input-lt One degree register small =
    let power : 2 ^ suc degree ≡ 2 * 2 ^ degree = pow-suc 2 degree ∙ omega arith in
    rw (sym power) (xor_lt (suc degree) (2 * register) (2 ^ degree) (rw power (omega arith)) (rw power (omega (arith, pow_pos degree))))

-- the register moved up, by the term at the top and the rest
moved : (x c : Bit) (degree register : ℕ) (s : List Bit) → lowest_bits (suc degree) (with_input x degree register) ≡ c ∷ s → lowest_bits degree register ++ Zero ∷ [] ≡ plus c x ∷ s
moved Zero c degree register s top = sym (lowest_bits-double degree register) ∙ top ∙ rw plus_zero refl
moved One c degree register s top =
    let v : List Bit = One ∷ replicate degree Zero in
    let pow : lowest_bits (suc degree) (2 ^ degree) ≡ v = pow_bits degree in
    let u : List Bit = lowest_bits (suc degree) (2 * register) in
    let sum : add u v ≡ c ∷ s = ap (add u) (sym pow) ∙ sym (lowest_bits-xor (suc degree) (2 * register) (2 ^ degree)) ∙ top in
    let s_long : degree ≡ length s = omega (arith, ap length sum, length-add u v, length-lowest_bits (suc degree) (2 * register)) in
    let back : add (c ∷ s) v ≡ plus c One ∷ s = rw (add_zeros degree s s_long) refl in
    sym (lowest_bits-double degree register) ∙ sym (add_back u v (omega (arith, length-lowest_bits (suc degree) (2 * register), length-replicate degree Zero))) ∙ ap (λ t. add t v) sum ∙ back

-- what lies from a power of two up to twice that
pub top_one : (n m : ℕ) → 0 < m → m ≤ n → n < 2 * m → n / m ≡ 1
top_one n m some low high =
    let one : 1 ≤ n / m = le-div 1 n m some (omega arith) in
    let few : n / m < 2 = div_below n m 2 some high in
    omega arith

below_top : (n m : ℕ) → 0 < m → n < m → n / m ≡ 0
below_top n m some below =
    let none : n / m < 1 = div_below n m 1 some (omega arith) in
    omega arith

pub reduced-lt : (degree n terms : ℕ) → terms / 2 ^ degree ≡ 1 → 2 ^ degree ≤ n → n < 2 * 2 ^ degree → bit_xor n terms < 2 ^ degree
reduced-lt degree n terms first low high =
    let one : n / 2 ^ degree ≡ 1 = top_one n (2 ^ degree) (pow_pos degree) low high in
    let none : bit_xor n terms / 2 ^ degree ≡ 0 = xor_shr n terms degree ∙ rw (one, first) refl in
    let rest : bit_xor n terms % 2 ^ degree < 2 ^ degree = mod_below (bit_xor n terms) (2 ^ degree) (pow_pos degree) in
    rw (sym (div-add-mod' (bit_xor n terms) (2 ^ degree)), none) (omega (arith, rest))

-- the bits of a register, by what stands at the top
top_bits : (degree n top : ℕ) → n / 2 ^ degree ≡ top → lowest_bits (suc degree) n ≡ bit_of_number (top % 2) ∷ lowest_bits degree n
unfolding lowest_bits
top_bits degree n top is = rw is refl

-- the parity after one more bit, by the term that comes to the top
parity_raised : (degree terms register n top : ℕ) (x : Bit) (a : List Bit) → terms / 2 ^ degree ≡ 1 → n ≡ with_input x degree register → n / 2 ^ degree ≡ top → HoldsParity degree terms a register
    → IsParity (lowest_bits (suc degree) terms) (a ++ x ∷ []) (add (lowest_bits degree n) (scale (bit_of_number (top % 2)) (lowest_bits degree terms)))
parity_raised degree terms register n top x a first is at_top known =
    let low : List Bit = lowest_bits degree terms in
    let terms_are : lowest_bits (suc degree) terms ≡ One ∷ low = terms_bits degree terms first in
    let up : lowest_bits (suc degree) (with_input x degree register) ≡ bit_of_number (top % 2) ∷ lowest_bits degree n = ap (lowest_bits (suc degree)) (sym is) ∙ top_bits degree n top at_top in
    rw terms_are
    (parity_more low a (lowest_bits degree register) (lowest_bits degree n) x (bit_of_number (top % 2)) (moved x (bit_of_number (top % 2)) degree register (lowest_bits degree n) up)
    (rw terms_are at known.parity))

-- the register with one more bit, where a one comes to the top
pub holds_one : (degree terms register n : ℕ) (x : Bit) (a : List Bit) → terms / 2 ^ degree ≡ 1 → n ≡ with_input x degree register → 2 ^ degree ≤ n → HoldsParity degree terms a register → HoldsParity degree terms (a ++ x ∷ []) (bit_xor n terms)
holds_one degree terms register n x a first is high known =
    let low : n < 2 * 2 ^ degree = rw is (with_input-lt x degree register known.small) in
    record {
      small = reduced-lt degree n terms first high low;
      parity = rw lowest_bits-xor (parity_raised degree terms register n 1 x a first is (top_one n (2 ^ degree) (pow_pos degree) high low) known);
    }

-- the same, where a zero comes to the top
pub holds_zero : (degree terms register n : ℕ) (x : Bit) (a : List Bit) → terms / 2 ^ degree ≡ 1 → n ≡ with_input x degree register → n < 2 ^ degree → HoldsParity degree terms a register → HoldsParity degree terms (a ++ x ∷ []) n
holds_zero degree terms register n x a first is low known =
    let same : add (lowest_bits degree n) (replicate (length (lowest_bits degree terms)) Zero) ≡ lowest_bits degree n =
    add_zeros (length (lowest_bits degree terms)) (lowest_bits degree n) (length-lowest_bits degree terms ∙ sym (length-lowest_bits degree n)) in
    record {
      small = low;
      parity = rw (sym same) (parity_raised degree terms register n 0 x a first is (below_top n (2 ^ degree) (pow_pos degree) low) known);
    }

pub reverse-lowest_bits : (i n : ℕ) → reverse (lowest_bits (i + 1) n) ≡ reverse (lowest_bits i n) ++ bit_of_number (bit_at n i) ∷ []
unfolding lowest_bits
reverse-lowest_bits i n = rw add-one (reverse-append (bit_of_number (bit_at n i) ∷ []) (lowest_bits i n))

pub get_or-lowest_bits : (count n i : ℕ) → i < count → get_or (lowest_bits count n) i Zero ≡ bit_of_number (bit_at n (count - 1 - i))
unfolding lowest_bits
get_or-lowest_bits zero n i inside = absurd (omega arith)
get_or-lowest_bits (suc count) n zero inside = let e : suc count - 1 - 0 ≡ count = omega arith in rw e refl
get_or-lowest_bits (suc count) n (suc i) inside =
    let e : suc count - 1 - suc i ≡ count - 1 - i = omega arith in
    rw e (get_or-lowest_bits count n i (omega arith))

-- bits that are the lowest ones of a number, at each place
pub reversed_at : (bits : List Bit) (n i : ℕ) → i < length bits → bits ≡ reverse (lowest_bits (length bits) n) → get_or bits i Zero ≡ bit_of_number (bit_at n i)
reversed_at bits n i inside same =
    let count : ℕ = length bits in
    let long : length (lowest_bits count n) ≡ count = length-lowest_bits count n in
    let place : count - 1 - (length (lowest_bits count n) - 1 - i) ≡ i = omega arith in
    ap (λ xs. get_or xs i Zero) same ∙ get_or-reverse (lowest_bits count n) i Zero (omega arith)
    ∙ get_or-lowest_bits count n (length (lowest_bits count n) - 1 - i) (omega arith) ∙ ap (λ k. bit_of_number (bit_at n k)) place

-- a number after one more bit than `rest` has
joined : (before b p rest q m : ℕ) → q ≡ p * 2 → m ≡ b * p + rest → (2 * before + b) * p + rest ≡ before * q + m
joined before b p rest q m e f = rw (e, f) (omega arith)

-- the number of the lowest bits, after those of another one
fold-lowest_bits : (count n before : ℕ) → fold (λ m b. 2 * m + number_of b) before (lowest_bits count n) ≡ before * 2 ^ count + n % 2 ^ count
unfolding lowest_bits
fold-lowest_bits zero n before = omega arith
fold-lowest_bits (suc count) n before =
    let b : ℕ = bit_at n count in
    let one : suc count ≡ 1 + count = omega arith in
    let split : n % 2 ^ suc count ≡ b * 2 ^ count + n % 2 ^ count = ap (λ e. n % 2 ^ e) one ∙ mod-pow-add n 1 count in
    ap (λ k. fold (λ m b. 2 * m + number_of b) (2 * before + k) (lowest_bits count n)) (number_of-bit_of_number b (bit_at-lt n count))
    ∙ fold-lowest_bits count n (2 * before + b)
    ∙ joined before b (2 ^ count) (n % 2 ^ count) (2 ^ suc count) (n % 2 ^ suc count) (pow-suc 2 count) split

pub number_of-lowest_bits : (count n : ℕ) → n < 2 ^ count → number_of_bits (lowest_bits count n) ≡ n
number_of-lowest_bits count n small = fold-lowest_bits count n 0 ∙ (omega (arith, mod-eq_of_lt small))
