-- The coded bits of a block that begins with zeros, of zeros, and of a sum where two codes agree.
use Rattle.std.proofs.Common.{◌≡◌, ◌+◌, ◌-◌, ◌*◌, ◌/◌, ◌%◌, ◌<◌, ◌≤◌, ℕ, zero, suc, List, [], ◌∷◌, true, false, length, get_or, sum_by, arith, refl, ap, sym, ◌∙◌, ⊎_elim, subst}
use Rattle.std.specs.Prelude.{nat_le, replicate}
use Rattle.std.proofs.lemmas.List.Sums.{sum_by-cons}
use Rattle.std.proofs.lemmas.Bool.Decides.{leb_tells}
use Rattle.dch_bits.specs.declared.bit.Bit.{Bit}
use Rattle.dch_bits.specs.declared.bit.Bit.TheVariants.{Zero, One}
use Rattle.dch_bits.specs.Bits.{number_of, plus, bit_of_number}
use Rattle.dch_coding.specs.declared.rate.Rate.{Rate}
use Rattle.dch_coding.specs.declared.rate.Rate.TheVariants.{Half, Third}
use Rattle.dch_coding.specs.Conv.{outputs, taps, input, coded, coded_length, encoded}
use Rattle.dch_coding.proofs.Codes.{encoded-at, coded_bit-at}
use Rattle.dch_coding.proofs.Linear.{sum, get_or-sum, encoded-sum}
use Rattle.dch_trellis.specs.Nearest.{IsBlock}

plus-self : (x : Bit) → plus x x ≡ Zero
plus-self Zero = refl
plus-self One = refl

-- where two codes agree that of the sum is zero
pub encoded-agreed : (rate : Rate) (a b : List Bit) (i : ℕ) → length a ≡ length b → get_or (encoded rate a) i Zero ≡ get_or (encoded rate b) i Zero → get_or (encoded rate (sum a b)) i Zero ≡ Zero
encoded-agreed rate a b i sized same =
    ap (λ code. get_or code i Zero) (encoded-sum rate a b sized)
    ∙ get_or-sum (encoded rate a) (encoded rate b) i
    ∙ ap (λ bit. plus bit (get_or (encoded rate b) i Zero)) same
    ∙ plus-self (get_or (encoded rate b) i Zero)

-- a function that is zero at each member of a list
abbrev AllZero : (ℕ → ℕ) → List ℕ → Type 0
AllZero f [] = Unit {0}
AllZero f (d ∷ ds) = (f d ≡ 0) × AllZero f ds

sum_by-zero : (f : ℕ → ℕ) (ds : List ℕ) → AllZero f ds → sum_by f ds ≡ 0
sum_by-zero f [] zeros = refl
sum_by-zero f (d ∷ ds) zeros = omega (arith, sum_by-cons f d ds, zeros.0, sum_by-zero f ds zeros.1)

zero_everywhere : (f : ℕ → ℕ) → ((d : ℕ) → f d ≡ 0) → (ds : List ℕ) → AllZero f ds
zero_everywhere f zeros [] = tt
zero_everywhere f zeros (d ∷ ds) = (zeros d, zero_everywhere f zeros ds)

-- where zeros stand before bit k, so do the inputs before step k
input-before : (size k : ℕ) (block : List Bit) → IsBlock size k block → (d : ℕ) → 0 < d → input block k d ≡ 0
input-before size k block shape d back = ⊎_elim
    (λ (inside : (nat_le d k ≡ true) × (d ≤ k)). rw inside.0 (ap number_of (shape.filled (k - d) (omega arith))))
    (λ (before : (nat_le d k ≡ false) × (k < d)). rw before.0 refl)
    (leb_tells d k)

input-now : (block : List Bit) (k : ℕ) → input block k 0 ≡ number_of (get_or block k Zero)
input-now block k =
    let index : k - 0 ≡ k = omega arith in
    ⊎_elim
    (λ (inside : (nat_le 0 k ≡ true) × (0 ≤ k)). rw (inside.0, index) refl)
    (λ (before : (nat_le 0 k ≡ false) × (k < 0)). absurd (omega (arith, before.1)))
    (leb_tells 0 k)

bit-number : (x : Bit) → bit_of_number (number_of x % 2) ≡ x
bit-number Zero = refl
bit-number One = refl

-- a sum over the current input and earlier ones, which are zero
start-sum : (block : List Bit) (k : ℕ) (ds : List ℕ) → AllZero (input block k) ds → sum_by (input block k) (0 ∷ ds) % 2 ≡ number_of (get_or block k Zero) % 2
start-sum block k ds zeros = omega (arith, sum_by-cons (input block k) 0 ds, sum_by-zero (input block k) ds zeros, input-now block k)

coded-start : (rate : Rate) (t size k : ℕ) (block : List Bit) → t < outputs rate → IsBlock size k block → coded rate block k t ≡ number_of (get_or block k Zero) % 2
coded-start Half zero size k block within shape =
    let before : (d : ℕ) → 0 < d → input block k d ≡ 0 = input-before size k block shape in
    start-sum block k (2 ∷ 3 ∷ 4 ∷ 8 ∷ []) (before 2 (omega arith), (before 3 (omega arith), (before 4 (omega arith), (before 8 (omega arith), tt))))
coded-start Half (suc zero) size k block within shape =
    let before : (d : ℕ) → 0 < d → input block k d ≡ 0 = input-before size k block shape in
    start-sum block k (1 ∷ 2 ∷ 3 ∷ 5 ∷ 7 ∷ 8 ∷ []) (before 1 (omega arith), (before 2 (omega arith), (before 3 (omega arith), (before 5 (omega arith), (before 7 (omega arith), (before 8 (omega arith), tt))))))
coded-start Half (suc (suc t)) size k block within shape = absurd (omega arith)
coded-start Third zero size k block within shape =
    let before : (d : ℕ) → 0 < d → input block k d ≡ 0 = input-before size k block shape in
    start-sum block k (2 ∷ 3 ∷ 5 ∷ 6 ∷ 7 ∷ 8 ∷ []) (before 2 (omega arith), (before 3 (omega arith), (before 5 (omega arith), (before 6 (omega arith), (before 7 (omega arith), (before 8 (omega arith), tt))))))
coded-start Third (suc zero) size k block within shape =
    let before : (d : ℕ) → 0 < d → input block k d ≡ 0 = input-before size k block shape in
    start-sum block k (1 ∷ 3 ∷ 4 ∷ 7 ∷ 8 ∷ []) (before 1 (omega arith), (before 3 (omega arith), (before 4 (omega arith), (before 7 (omega arith), (before 8 (omega arith), tt)))))
coded-start Third (suc (suc zero)) size k block within shape =
    let before : (d : ℕ) → 0 < d → input block k d ≡ 0 = input-before size k block shape in
    start-sum block k (1 ∷ 2 ∷ 5 ∷ 8 ∷ []) (before 1 (omega arith), (before 2 (omega arith), (before 5 (omega arith), (before 8 (omega arith), tt))))
coded-start Third (suc (suc (suc t))) size k block within shape = absurd (omega arith)

pub start-inside : (rate : Rate) (size k t : ℕ) → k < size → t < outputs rate → outputs rate * k + t < coded_length rate size
start-inside Half size k t inside within = omega arith
start-inside Third size k t inside within = omega arith

pub first-inside : (rate : Rate) (size k : ℕ) → k < size → outputs rate * k < coded_length rate size
first-inside Half size k inside = omega arith
first-inside Third size k inside = omega arith

some_output : (rate : Rate) → 0 < outputs rate
some_output Half = omega arith
some_output Third = omega arith

-- after zeros alone, each output of a step is its input
pub encoded-start : (rate : Rate) (size k t at : ℕ) (block : List Bit) → IsBlock size k block → k < size → t < outputs rate → at ≡ outputs rate * k + t → get_or (encoded rate block) at Zero ≡ get_or block k Zero
encoded-start rate size k t at block shape inside within place =
    encoded-at rate block at (let P : ℕ → Type 0 = λ n. at < coded_length rate n in subst P (sym shape.sized) (omega (arith, place, start-inside rate size k t inside within)))
    ∙ coded_bit-at rate block k t at within place
    ∙ ap bit_of_number (coded-start rate t size k block within shape)
    ∙ bit-number (get_or block k Zero)

pub encoded-first : (rate : Rate) (size k : ℕ) (block : List Bit) → IsBlock size k block → k < size → get_or (encoded rate block) (outputs rate * k) Zero ≡ get_or block k Zero
encoded-first rate size k block shape inside = encoded-start rate size k 0 (outputs rate * k) block shape inside (some_output rate) (omega arith)

pub get_or-zeros : (n t : ℕ) → get_or (replicate n Zero) t Zero ≡ Zero
get_or-zeros zero t = refl
get_or-zeros (suc n) zero = refl
get_or-zeros (suc n) (suc t) = get_or-zeros n t

input-zeros : (n k d : ℕ) → input (replicate n Zero) k d ≡ 0
input-zeros n k d = ⊎_elim
    (λ (inside : (nat_le d k ≡ true) × (d ≤ k)). rw inside.0 (ap number_of (get_or-zeros n (k - d))))
    (λ (before : (nat_le d k ≡ false) × (k < d)). rw before.0 refl)
    (leb_tells d k)

-- the code of zeros is zeros
pub encoded-zeros : (rate : Rate) (n i : ℕ) → i < coded_length rate (length (replicate n Zero)) → get_or (encoded rate (replicate n Zero)) i Zero ≡ Zero
encoded-zeros rate n i within =
    let k : ℕ = i / outputs rate in
    let t : ℕ = i % outputs rate in
    let none : sum_by (input (replicate n Zero) k) (taps rate t) ≡ 0 = sum_by-zero (input (replicate n Zero) k) (taps rate t) (zero_everywhere (input (replicate n Zero) k) (input-zeros n k) (taps rate t)) in
    encoded-at rate (replicate n Zero) i within ∙ ap (λ n. bit_of_number (n % 2)) none
