-- The inverse of the code: an input is the sum of five of its coded bits.
use Rattle.std.proofs.Common.{◌≡◌, ◌+◌, ◌-◌, ◌*◌, ◌/◌, ◌%◌, ◌<◌, ◌≤◌, ℕ, zero, suc, List, [], ◌∷◌, true, false, length, get_or, take, sum_by, arith, refl, ap, sym, subst, ◌∙◌, ⊎_elim}
use Rattle.std.specs.Prelude.{nat_le, nat_lt}
use Rattle.std.proofs.lemmas.Bool.Decides.{leb_tells, nat_tests}
use Rattle.std.proofs.lemmas.List.{ext_get_or, get_or-take, length-take, length-take-le}
use Rattle.std.proofs.lemmas.List.Sums.{sum_by-cons}
use Rattle.dch_bits.specs.declared.bit.Bit.{Bit}
use Rattle.dch_bits.specs.declared.bit.Bit.TheVariants.{Zero, One}
use Rattle.dch_bits.specs.declared.bit.Vote.{Vote}
use Rattle.dch_bits.specs.Bits.{number_of, bit_of_number}
use Rattle.dch_coding.specs.declared.rate.Rate.{Rate}
use Rattle.dch_coding.specs.declared.rate.Rate.TheVariants.{Half, Third}
use Rattle.dch_coding.specs.Conv.{outputs, taps, bit_at, input, coded, coded_length, encoded}
use Rattle.dch_coding.proofs.Codes.{encoded-at, coded_bit-at}
use Rattle.dch_coding.proofs.Steps.{number_le}
use Rattle.dch_trellis.specs.Inverse.{majority, places, bit_from, sum_from, AreMajorities, AreInverse, IsDecided, AreDecided}
use Rattle.dch_trellis.specs.Search.{no_votes, choice}

number-bit : (n : ℕ) → n < 2 → number_of (bit_of_number n) ≡ n
number-bit zero low = refl
number-bit (suc zero) low = refl
number-bit (suc (suc n)) low = absurd (omega arith)

bit-number : (b : Bit) → bit_of_number (number_of b) ≡ b
bit-number Zero = refl
bit-number One = refl

-- a coded bit as a number, by its step and generator
bit_at-encoded : (rate : Rate) (block : List Bit) (k t i : ℕ) → t < outputs rate → i ≡ outputs rate * k + t → i < coded_length rate (length block) → bit_at (encoded rate block) i ≡ coded rate block k t
bit_at-encoded rate block k t i within same inside =
    ap number_of (encoded-at rate block i inside ∙ coded_bit-at rate block k t i within same) ∙ number-bit (coded rate block k t) (omega arith)

-- an input by its distance from a later step
input-later : (block : List Bit) (k d j e : ℕ) → j + d ≡ k + e → d ≤ e → input block k d ≡ input block j e
input-later block k d j e same later = ⊎_elim
    (λ (inside : (nat_le d k ≡ true) × (d ≤ k)). ⊎_elim
    (λ (also : (nat_le e j ≡ true) × (e ≤ j)). rw (inside.0, also.0) (let place : k - d ≡ j - e = omega (arith, inside.1, also.1) in ap (bit_at block) place))
    (λ (early : (nat_le e j ≡ false) × (j < e)). absurd (omega (arith, inside.1, early.1)))
    (leb_tells e j))
    (λ (before : (nat_le d k ≡ false) × (k < d)). ⊎_elim
    (λ (also : (nat_le e j ≡ true) × (e ≤ j)). absurd (omega (arith, before.1, also.1)))
    (λ (early : (nat_le e j ≡ false) × (j < e)). rw (before.0, early.0) refl)
    (leb_tells e j))
    (leb_tells d k)

input-own : (block : List Bit) (k d : ℕ) → input block (k + d) d ≡ bit_at block k
input-own block k d = ⊎_elim
    (λ (inside : (nat_le d (k + d) ≡ true) × (d ≤ k + d)). rw inside.0 (let place : k + d - d ≡ k = omega arith in ap (bit_at block) place))
    (λ (before : (nat_le d (k + d) ≡ false) × (k + d < d)). absurd (omega (arith, before.1)))
    (leb_tells d (k + d))

bit-sum : (n : ℕ) (b : Bit) → n % 2 ≡ number_of b → bit_of_number (n % 2) ≡ b
bit-sum n b same = ap bit_of_number same ∙ bit-number b

-- each input is the sum of its coded bits
pub sum_from-encoded : (rate : Rate) (block : List Bit) (k : ℕ) → k < length block → sum_from (encoded rate block) (outputs rate * k) (places rate) ≡ get_or block k Zero
sum_from-encoded Half block k within = bit-sum _ (get_or block k Zero)
    (omega (
      arith,
      number_le (get_or block k Zero),
      input-own block k 6,
      bit_at-encoded Half block (k + 4) 0 (2 * k + 8) (omega arith) (omega arith) (omega arith),
      bit_at-encoded Half block (k + 4) 1 (2 * k + 9) (omega arith) (omega arith) (omega arith),
      bit_at-encoded Half block (k + 5) 0 (2 * k + 10) (omega arith) (omega arith) (omega arith),
      bit_at-encoded Half block (k + 6) 0 (2 * k + 12) (omega arith) (omega arith) (omega arith),
      bit_at-encoded Half block (k + 6) 1 (2 * k + 13) (omega arith) (omega arith) (omega arith),
      input-later block (k + 4) 0 (k + 6) 2 (omega arith) (omega arith),
      input-later block (k + 4) 1 (k + 6) 3 (omega arith) (omega arith),
      input-later block (k + 4) 2 (k + 6) 4 (omega arith) (omega arith),
      input-later block (k + 4) 3 (k + 6) 5 (omega arith) (omega arith),
      input-later block (k + 4) 4 (k + 6) 6 (omega arith) (omega arith),
      input-later block (k + 4) 5 (k + 6) 7 (omega arith) (omega arith),
      input-later block (k + 4) 7 (k + 6) 9 (omega arith) (omega arith),
      input-later block (k + 4) 8 (k + 6) 10 (omega arith) (omega arith),
      input-later block (k + 5) 0 (k + 6) 1 (omega arith) (omega arith),
      input-later block (k + 5) 2 (k + 6) 3 (omega arith) (omega arith),
      input-later block (k + 5) 3 (k + 6) 4 (omega arith) (omega arith),
      input-later block (k + 5) 4 (k + 6) 5 (omega arith) (omega arith),
      input-later block (k + 5) 8 (k + 6) 9 (omega arith) (omega arith),
    ))
sum_from-encoded Third block k within = bit-sum _ (get_or block k Zero)
    (omega (
      arith,
      number_le (get_or block k Zero),
      input-own block k 7,
      bit_at-encoded Third block (k + 4) 0 (3 * k + 12) (omega arith) (omega arith) (omega arith),
      bit_at-encoded Third block (k + 4) 2 (3 * k + 14) (omega arith) (omega arith) (omega arith),
      bit_at-encoded Third block (k + 5) 1 (3 * k + 16) (omega arith) (omega arith) (omega arith),
      bit_at-encoded Third block (k + 7) 1 (3 * k + 22) (omega arith) (omega arith) (omega arith),
      bit_at-encoded Third block (k + 7) 2 (3 * k + 23) (omega arith) (omega arith) (omega arith),
      input-later block (k + 4) 0 (k + 7) 3 (omega arith) (omega arith),
      input-later block (k + 4) 1 (k + 7) 4 (omega arith) (omega arith),
      input-later block (k + 4) 2 (k + 7) 5 (omega arith) (omega arith),
      input-later block (k + 4) 3 (k + 7) 6 (omega arith) (omega arith),
      input-later block (k + 4) 5 (k + 7) 8 (omega arith) (omega arith),
      input-later block (k + 4) 6 (k + 7) 9 (omega arith) (omega arith),
      input-later block (k + 4) 7 (k + 7) 10 (omega arith) (omega arith),
      input-later block (k + 4) 8 (k + 7) 11 (omega arith) (omega arith),
      input-later block (k + 5) 0 (k + 7) 2 (omega arith) (omega arith),
      input-later block (k + 5) 1 (k + 7) 3 (omega arith) (omega arith),
      input-later block (k + 5) 3 (k + 7) 5 (omega arith) (omega arith),
      input-later block (k + 5) 4 (k + 7) 6 (omega arith) (omega arith),
      input-later block (k + 5) 7 (k + 7) 9 (omega arith) (omega arith),
      input-later block (k + 5) 8 (k + 7) 10 (omega arith) (omega arith),
    ))

-- a bit on which the copies decide is the one of which there are more copies
majority-decided : (vote : Vote) (x : Bit) → IsDecided vote x → majority vote ≡ x
majority-decided vote Zero decided = let test : nat_lt vote.zeros vote.ones ≡ false = grind (arith, nat_tests) in ap choice test
majority-decided vote One decided = let test : nat_lt vote.zeros vote.ones ≡ true = grind (arith, nat_tests) in ap choice test

-- the sum reads the coded bits of the next eight steps alone
sum_from-same : (rate : Rate) (xs ys : List Bit) (k : ℕ) → ((j : ℕ) → j < coded_length rate k → get_or xs j Zero ≡ get_or ys j Zero) → sum_from xs (outputs rate * k) (places rate) ≡ sum_from ys (outputs rate * k) (places rate)
sum_from-same Half xs ys k same =
    let total : sum_by (bit_from xs (2 * k)) (places Half) ≡ sum_by (bit_from ys (2 * k)) (places Half) =
    omega (arith, ap number_of (same (2 * k + 8) (omega arith)), ap number_of (same (2 * k + 9) (omega arith)), ap number_of (same (2 * k + 10) (omega arith)), ap number_of (same (2 * k + 12) (omega arith)), ap number_of (same (2 * k + 13) (omega arith))) in
    ap (λ sum. bit_of_number (sum % 2)) total
sum_from-same Third xs ys k same =
    let total : sum_by (bit_from xs (3 * k)) (places Third) ≡ sum_by (bit_from ys (3 * k)) (places Third) =
    omega (arith, ap number_of (same (3 * k + 12) (omega arith)), ap number_of (same (3 * k + 14) (omega arith)), ap number_of (same (3 * k + 16) (omega arith)), ap number_of (same (3 * k + 22) (omega arith)), ap number_of (same (3 * k + 23) (omega arith))) in
    ap (λ sum. bit_of_number (sum % 2)) total

coded_length-le : (rate : Rate) (k n : ℕ) → k ≤ n → coded_length rate k ≤ coded_length rate n
coded_length-le Half k n within = omega arith
coded_length-le Third k n within = omega arith

-- from copies that decide on the coded bits of a block, its first inputs are read
pub first_inputs : (rate : Rate) (votes : List Vote) (received block source : List Bit) (n count : ℕ) → length block ≡ n → n ≤ length source → count ≡ coded_length rate n → count ≤ length votes → AreMajorities (length (take count votes)) (take count votes) received → AreInverse rate n received block → AreDecided votes (encoded rate source) → block ≡ take n source
first_inputs rate votes received block source n count long within same room major inverse decided =
    ext_get_or Zero block (take n source) (long ∙ sym (length-take-le n source within)) (λ k below.
    inverse k (omega arith)
    ∙ sum_from-same rate received (encoded rate source) k (λ j inside.
    let near : j < count = omega (arith, coded_length-le rate k n (omega arith)) in
    major j (omega (arith, length-take-le count votes room))
    ∙ ap majority (get_or-take count votes j no_votes near)
    ∙ majority-decided (get_or votes j no_votes) (get_or (encoded rate source) j Zero) (decided j (omega arith)))
    ∙ sum_from-encoded rate source k (omega arith)
    ∙ sym (get_or-take n source k Zero (omega arith)))

sum_by-each : (f g : ℕ → ℕ) → ((d : ℕ) → f d ≡ g d) → (ds : List ℕ) → sum_by f ds ≡ sum_by g ds
sum_by-each f g same [] = refl
sum_by-each f g same (d ∷ ds) = omega (arith, sum_by-cons f d ds, sum_by-cons g d ds, same d, sum_by-each f g same ds)

input-first : (source : List Bit) (n k d : ℕ) → k < n → input (take n source) k d ≡ input source k d
input-first source n k d below = ⊎_elim
    (λ (inside : (nat_le d k ≡ true) × (d ≤ k)). rw inside.0 (ap number_of (get_or-take n source (k - d) Zero (omega arith))))
    (λ (before : (nat_le d k ≡ false) × (k < d)). rw before.0 refl)
    (leb_tells d k)

step-below : (rate : Rate) (j n : ℕ) → j < outputs rate * n → j / outputs rate < n
step-below Half j n below = omega arith
step-below Third j n below = omega arith

coded_bits-le : (rate : Rate) (n : ℕ) → outputs rate * n ≤ coded_length rate n
coded_bits-le Half n = omega arith
coded_bits-le Third n = omega arith

-- the first coded bits are those of the first inputs
encoded-first : (rate : Rate) (source : List Bit) (n j : ℕ) → n ≤ length source → j < outputs rate * n → get_or (encoded rate (take n source)) j Zero ≡ get_or (encoded rate source) j Zero
encoded-first rate source n j within below =
    let front : length (take n source) ≡ n = length-take-le n source within in
    encoded-at rate (take n source) j (omega (arith, coded_bits-le rate n, ap (coded_length rate) front))
    ∙ ap (λ sum. bit_of_number (sum % 2)) (sum_by-each (input (take n source) (j / outputs rate)) (input source (j / outputs rate)) (λ d. input-first source n (j / outputs rate) d (step-below rate j n below)) (taps rate (j % outputs rate)))
    ∙ sym (encoded-at rate source j (omega (arith, coded_bits-le rate n, coded_length-le rate n (length source) within)))

pub first_decided : (rate : Rate) (votes : List Vote) (source : List Bit) (n m : ℕ) → m ≡ outputs rate * n → n ≤ length source → AreDecided votes (encoded rate source) → AreDecided (take m votes) (encoded rate (take n source))
first_decided rate votes source n m same within decided = λ j inside.
    let below : j < m = omega (arith, length-take m votes) in
    let Of : Vote → Type 0 = λ vote. IsDecided vote (get_or (encoded rate (take n source)) j Zero) in
    let Bits : Bit → Type 0 = λ bit. IsDecided (get_or votes j no_votes) bit in
    subst Of (sym (get_or-take m votes j no_votes below)) (subst Bits (sym (encoded-first rate source n j within (omega arith))) (decided j (omega (arith, length-take m votes))))
