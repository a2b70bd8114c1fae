-- The code is linear: the coded bits of a sum of blocks are the sums of theirs, modulo 2.
use Rattle.std.proofs.Common.{◌≡◌, ◌≢◌, ◌⊎◌, inl, inr, ◌+◌, ◌-◌, ◌/◌, ◌%◌, ◌<◌, ◌≤◌, ℕ, zero, suc, List, [], ◌∷◌, true, false, length, get_or, sum_by, arith, refl, ap, ap₂, sym, ◌∙◌, ⊎_elim}
use Rattle.std.specs.Prelude.{nat_le, replicate}
use Rattle.std.proofs.lemmas.List.Sums.{sum_by-cons}
use Rattle.std.proofs.lemmas.Bool.Decides.{leb_tells}
use Rattle.dch_bits.specs.declared.bit.Bit.{Bit}
use Rattle.dch_bits.specs.declared.bit.Bit.TheVariants.{Zero, One}
use Rattle.dch_bits.specs.Bits.{number_of, plus, bit_of_number}
use Rattle.dch_coding.specs.declared.rate.Rate.{Rate}
use Rattle.dch_coding.specs.Conv.{outputs, taps, input, coded, coded_bit, coded_length, encoded}
use Rattle.dch_coding.proofs.Codes.{length-encoded, encoded-at, encoded-by_places}

-- the sum of two blocks, bit by bit modulo 2
abbrev pub sum : List Bit → List Bit → List Bit
sum [] b = b
sum (x ∷ a) [] = x ∷ a
sum (x ∷ a) (y ∷ b) = plus x y ∷ sum a b

plus-zero : (x : Bit) → plus x Zero ≡ x
plus-zero Zero = refl
plus-zero One = refl

pub get_or-sum : (a b : List Bit) (t : ℕ) → get_or (sum a b) t Zero ≡ plus (get_or a t Zero) (get_or b t Zero)
get_or-sum [] b t = refl
get_or-sum (x ∷ a) [] t = sym (plus-zero (get_or (x ∷ a) t Zero))
get_or-sum (x ∷ a) (y ∷ b) zero = refl
get_or-sum (x ∷ a) (y ∷ b) (suc t) = get_or-sum a b t

pub length-sum : (a b : List Bit) → length a ≡ length b → length (sum a b) ≡ length a
length-sum [] b same = sym same
length-sum (x ∷ a) [] same = refl
length-sum (x ∷ a) (y ∷ b) same = ap suc (length-sum a b (omega arith))

number-plus : (x y : Bit) → number_of (plus x y) % 2 ≡ (number_of x + number_of y) % 2
number-plus Zero Zero = refl
number-plus Zero One = refl
number-plus One Zero = refl
number-plus One One = refl

-- an input of the sum
input-sum : (a b : List Bit) (k d : ℕ) → input (sum a b) k d % 2 ≡ (input a k d + input b k d) % 2
input-sum a b k d = ⊎_elim
    (λ (inside : (nat_le d k ≡ true) × (d ≤ k)). rw inside.0 (ap (λ x. number_of x % 2) (get_or-sum a b (k - d)) ∙ number-plus (get_or a (k - d) Zero) (get_or b (k - d) Zero)))
    (λ (before : (nat_le d k ≡ false) × (k < d)). rw before.0 refl)
    (leb_tells d k)

-- a sum of sums modulo 2
sum_by-sum : (f g h : ℕ → ℕ) → ((d : ℕ) → f d % 2 ≡ (g d + h d) % 2) → (ds : List ℕ) → sum_by f ds % 2 ≡ (sum_by g ds + sum_by h ds) % 2
sum_by-sum f g h parts [] = refl
sum_by-sum f g h parts (d ∷ ds) = omega (arith, sum_by-cons f d ds, sum_by-cons g d ds, sum_by-cons h d ds, parts d, sum_by-sum f g h parts ds)

coded-sum : (rate : Rate) (a b : List Bit) (k t : ℕ) → coded rate (sum a b) k t ≡ (coded rate a k t + coded rate b k t) % 2
coded-sum rate a b k t = omega (arith, sum_by-sum (input (sum a b) k) (input a k) (input b k) (input-sum a b k) (taps rate t))

plus-bits : (x y : ℕ) → x < 2 → y < 2 → plus (bit_of_number x) (bit_of_number y) ≡ bit_of_number ((x + y) % 2)
plus-bits zero zero low high = refl
plus-bits zero (suc zero) low high = refl
plus-bits (suc zero) zero low high = refl
plus-bits (suc zero) (suc zero) low high = refl
plus-bits (suc (suc x)) y low high = absurd (omega arith)
plus-bits zero (suc (suc y)) low high = absurd (omega arith)
plus-bits (suc zero) (suc (suc y)) low high = absurd (omega arith)

coded_bit-sum : (rate : Rate) (a b : List Bit) (i : ℕ) → plus (coded_bit rate a i) (coded_bit rate b i) ≡ coded_bit rate (sum a b) i
coded_bit-sum rate a b i =
    let k : ℕ = i / outputs rate in
    let t : ℕ = i % outputs rate in
    plus-bits (coded rate a k t) (coded rate b k t) (omega arith) (omega arith) ∙ ap bit_of_number (sym (coded-sum rate a b k t))

pub encoded-sum : (rate : Rate) (a b : List Bit) → length a ≡ length b → encoded rate (sum a b) ≡ sum (encoded rate a) (encoded rate b)
encoded-sum rate a b same =
    let long : length (encoded rate a) ≡ coded_length rate (length a) = length-encoded rate a in
    let longer : length (encoded rate b) ≡ coded_length rate (length a) = length-encoded rate b ∙ ap (coded_length rate) (sym same) in
    let whole : length (sum (encoded rate a) (encoded rate b)) ≡ coded_length rate (length a) = length-sum (encoded rate a) (encoded rate b) (long ∙ sym longer) ∙ long in
    sym (encoded-by_places rate (sum a b) (sum (encoded rate a) (encoded rate b)) (whole ∙ ap (coded_length rate) (sym (length-sum a b same))) (λ i within.
    get_or-sum (encoded rate a) (encoded rate b) i
    ∙ ap₂ plus (encoded-at rate a i (omega (arith, whole))) (encoded-at rate b i (omega (arith, whole, ap (coded_length rate) same)))
    ∙ coded_bit-sum rate a b i))

-- zeros and a block make the block
pub sum-zeros : (n : ℕ) (b : List Bit) → n ≡ length b → sum (replicate n Zero) b ≡ b
sum-zeros zero b same = refl
sum-zeros (suc n) [] same = absurd (omega arith)
sum-zeros (suc n) (x ∷ b) same = ap (λ rest. x ∷ rest) (sum-zeros n b (omega arith))

-- blocks whose sum is zeros are the same
pub sum-same : (a b : List Bit) → length a ≡ length b → ((t : ℕ) → get_or (sum a b) t Zero ≡ Zero) → a ≡ b
sum-same [] [] sized none = refl
sum-same [] (y ∷ b) sized none = absurd (omega arith)
sum-same (x ∷ a) [] sized none = absurd (omega arith)
sum-same (x ∷ a) (y ∷ b) sized none =
    let rest : a ≡ b = sum-same a b (omega arith) (λ t. none (suc t)) in
    rw (rest, equal x y (none 0)) refl
  where
    equal : (x y : Bit) → plus x y ≡ Zero → x ≡ y
    equal Zero Zero none = refl
    equal Zero One none = cc
    equal One Zero none = cc
    equal One One none = refl

-- blocks are the same, or they are not
pub same_or_not : (a b : List Bit) → (a ≡ b) ⊎ (a ≢ b)
same_or_not [] [] = inl refl
same_or_not [] (y ∷ b) = inr (λ same. cc)
same_or_not (x ∷ a) [] = inr (λ same. cc)
same_or_not (Zero ∷ a) (Zero ∷ b) = elim (same_or_not a b) [ inl same ↦ inl (ap (λ bits. Zero ∷ bits) same) | inr other ↦ inr (λ same. other (cc)) ]
same_or_not (One ∷ a) (One ∷ b) = elim (same_or_not a b) [ inl same ↦ inl (ap (λ bits. One ∷ bits) same) | inr other ↦ inr (λ same. other (cc)) ]
same_or_not (Zero ∷ a) (One ∷ b) = inr (λ same. cc)
same_or_not (One ∷ a) (Zero ∷ b) = inr (λ same. cc)
