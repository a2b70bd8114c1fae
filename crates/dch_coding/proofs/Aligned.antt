-- The parity at the highest bits of a register of 32.
use Rattle.std.proofs.Common.{◌≡◌, ◌+◌, ◌-◌, ◌*◌, ◌/◌, ◌%◌, ◌^◌, ◌<◌, ◌≤◌, ℕ, zero, suc, List, [], ◌∷◌, ◌++◌, length, replicate, take, arith, refl, ap, ap₂, sym, ◌∙◌, append_assoc, append-nil, length-append}
use Rattle.std.specs.Int.{bit_at}
use Rattle.std.specs.Int.Bits.{bit_xor, xor_zero_r}
use Rattle.std.proofs.Math.Nat.{pow-suc}
use Rattle.std.proofs.Math.Seq.{take-append_seam}
use Rattle.std.proofs.lemmas.Nat.{xor_block, shr-shr, shr_below}
use Rattle.std.proofs.lemmas.List.{length-replicate, replicate-append-replicate}
use Rattle.dch_bits.specs.declared.bit.Bit.{Bit}
use Rattle.dch_bits.specs.declared.bit.Bit.TheVariants.{Zero, One}
use Rattle.dch_bits.specs.Bits.{bit_of_number, number_of}
use Rattle.dch_coding.specs.Parity.{add, scale, times}
use Rattle.dch_coding.specs.Register.{lowest_bits, HoldsParity}
use Rattle.dch_coding.proofs.Products.{add_append, add_zeros, zeros_more, length-scale, length-times}
use Rattle.dch_coding.proofs.Registers.{length-lowest_bits, lowest_bits-double, with_input, top_one, holds_one, holds_zero}

-- ---- one step
double-xor : (a b : ℕ) → 2 * bit_xor a b ≡ bit_xor (2 * a) (2 * b)
double-xor a b =
    let block : bit_xor (a * 2 ^ 1 + 0) (b * 2 ^ 1 + 0) ≡ bit_xor a b * 2 ^ 1 + bit_xor 0 0 = xor_block 1 a b 0 0 (omega arith) (omega arith) in
    let left : a * 2 ^ 1 + 0 ≡ 2 * a = omega arith in
    let right : b * 2 ^ 1 + 0 ≡ 2 * b = omega arith in
    omega (arith, ap₂ bit_xor left right, block)

raised-double : (x : Bit) (register : ℕ) → 2 * bit_xor register (number_of x * 2 ^ 31) ≡ with_input x 32 register
raised-double Zero register = ap (λ n. 2 * n) (xor_zero_r register)
raised-double One register = double-xor register (2 ^ 31)

pub step_one : (terms register raised : ℕ) (x : Bit) (a : List Bit) → terms < 2 ^ 32 → raised < 2 ^ 32 → raised ≡ bit_xor register (number_of x * 2 ^ 31) → raised / 2 ^ 31 ≡ 1 → HoldsParity 32 (2 ^ 32 + terms) a register
    → HoldsParity 32 (2 ^ 32 + terms) (a ++ x ∷ []) (bit_xor (raised * 2 % 2 ^ 32) terms)
step_one terms register raised x a small fits is top known =
    let first : (2 ^ 32 + terms) / 2 ^ 32 ≡ 1 = top_one (2 ^ 32 + terms) (2 ^ 32) (omega arith) (omega arith) (omega arith) in
    let n : 2 * raised ≡ with_input x 32 register = ap (λ n. 2 * n) is ∙ raised-double x register in
    let high : 2 ^ 32 ≤ 2 * raised = omega arith in
    let rest : raised * 2 % 2 ^ 32 < 2 ^ 32 = omega arith in
    let split : 1 * 2 ^ 32 + raised * 2 % 2 ^ 32 ≡ 2 * raised = omega arith in
    let whole : 1 * 2 ^ 32 + terms ≡ 2 ^ 32 + terms = omega arith in
    let cleared : bit_xor (1 * 2 ^ 32 + raised * 2 % 2 ^ 32) (1 * 2 ^ 32 + terms) ≡ bit_xor 1 1 * 2 ^ 32 + bit_xor (raised * 2 % 2 ^ 32) terms = xor_block 32 1 1 (raised * 2 % 2 ^ 32) terms rest small in
    let same : bit_xor (2 * raised) (2 ^ 32 + terms) ≡ bit_xor (raised * 2 % 2 ^ 32) terms = sym (ap₂ bit_xor split whole) ∙ cleared ∙ omega arith in
    rw (sym same) (holds_one 32 (2 ^ 32 + terms) register (2 * raised) x a first n high known)

pub step_zero : (terms register raised : ℕ) (x : Bit) (a : List Bit) → terms < 2 ^ 32 → raised < 2 ^ 31 → raised ≡ bit_xor register (number_of x * 2 ^ 31) → HoldsParity 32 (2 ^ 32 + terms) a register
    → HoldsParity 32 (2 ^ 32 + terms) (a ++ x ∷ []) (raised * 2 % 2 ^ 32)
step_zero terms register raised x a small low is known =
    let first : (2 ^ 32 + terms) / 2 ^ 32 ≡ 1 = top_one (2 ^ 32 + terms) (2 ^ 32) (omega arith) (omega arith) (omega arith) in
    let n : 2 * raised ≡ with_input x 32 register = ap (λ n. 2 * n) is ∙ raised-double x register in
    let same : 2 * raised ≡ raised * 2 % 2 ^ 32 = omega arith in
    rw (sym same) (holds_zero 32 (2 ^ 32 + terms) register (2 * raised) x a first n (omega arith) known)

-- ---- the parity of the polynomial from that of the one with more zeros at its end
pub lowest_bits-shifted : (count k n : ℕ) → lowest_bits (count + k) (n * 2 ^ k) ≡ lowest_bits count n ++ replicate k Zero
lowest_bits-shifted count zero n =
    let long : count + 0 ≡ count = omega arith in
    let same : n * 2 ^ 0 ≡ n = omega arith in
    rw (long, same) (sym (append-nil (lowest_bits count n)))
lowest_bits-shifted count (suc k) n =
    let long : count + suc k ≡ suc (count + k) = omega arith in
    let twice : n * 2 ^ suc k ≡ 2 * (n * 2 ^ k) = rw (pow-suc 2 k) (omega arith) in
    rw (long, twice) (lowest_bits-double (count + k) (n * 2 ^ k) ∙ ap (λ xs. xs ++ Zero ∷ []) (lowest_bits-shifted count k n) ∙ rw append_assoc (rw zeros_more refl))

pub lowest_bits-split : (count k n : ℕ) → lowest_bits (count + k) n ≡ lowest_bits count (n / 2 ^ k) ++ lowest_bits k n
unfolding lowest_bits
lowest_bits-split zero k n = let same : 0 + k ≡ k = omega arith in ap (λ m. lowest_bits m n) same
lowest_bits-split (suc count) k n =
    let long : suc count + k ≡ suc (count + k) = omega arith in
    let place : k + count ≡ count + k = omega arith in
    let here : bit_at n (count + k) ≡ bit_at (n / 2 ^ k) count = ap (λ m. m % 2) (sym (shr-shr n k count ∙ ap (λ e. n / 2 ^ e) place)) in
    rw long (ap₂ (λ (m : ℕ) (xs : List Bit). bit_of_number m ∷ xs) here (lowest_bits-split count k n))

zeros_swap : (n m : ℕ) → replicate n Zero ++ replicate m Zero ≡ replicate m Zero ++ replicate n Zero
zeros_swap n m = replicate-append-replicate n m Zero ∙ ap (λ k. replicate k Zero) (add_swap n m) ∙ sym (replicate-append-replicate m n Zero)
  where
    add_swap : (n m : ℕ) → n + m ≡ m + n
    add_swap n m = omega arith

scale-shifted : (b : Bit) (g : List Bit) (k : ℕ) → scale b (g ++ replicate k Zero) ≡ scale b g ++ replicate k Zero
scale-shifted Zero g k =
    let long : length (g ++ replicate k Zero) ≡ length g + k = omega (arith, length-append g (replicate k Zero), length-replicate k Zero) in
    ap (λ n. replicate n Zero) long ∙ sym (replicate-append-replicate (length g) k Zero)
scale-shifted One g k = refl

-- the product with k zeros more at the end
times-shifted : (g q : List Bit) (k : ℕ) → 1 ≤ length g → times (g ++ replicate k Zero) q ≡ times g q ++ replicate k Zero
times-shifted g [] k some =
    let long : length (g ++ replicate k Zero) - 1 ≡ length g - 1 + k = omega (arith, length-append g (replicate k Zero), length-replicate k Zero) in
    ap (λ n. replicate n Zero) long ∙ sym (replicate-append-replicate (length g - 1) k Zero)
times-shifted g (b ∷ q) k some =
    let zeros : List Bit = replicate k Zero in
    let others : List Bit = replicate (length q) Zero in
    let front : scale b (g ++ zeros) ++ others ≡ (scale b g ++ others) ++ zeros =
    rw (scale-shifted b g k) (append_assoc (scale b g) zeros others ∙ ap (λ t. scale b g ++ t) (zeros_swap k (length q)) ∙ sym (append_assoc (scale b g) others zeros)) in
    let same : length (scale b g ++ others) ≡ length (Zero ∷ times g q) =
    omega (arith, length-append (scale b g) others, length-scale b g, length-replicate (length q) Zero, length-times g q some) in
    ap₂ (λ (x y : List Bit). add x (Zero ∷ y)) front (times-shifted g q k some)
    ∙ add_append (scale b g ++ others) (Zero ∷ times g q) zeros zeros same
    ∙ ap (λ t. add (scale b g ++ others) (Zero ∷ times g q) ++ t) (add_zeros k zeros (sym (length-replicate k Zero)))

-- fronts of equal lists with ends of one length
fronts : (xs ys us vs : List Bit) → xs ++ us ≡ ys ++ vs → length us ≡ length vs → xs ≡ ys
fronts xs ys us vs whole ends =
    let same : length xs ≡ length ys = omega (arith, ap length whole, length-append xs us, length-append ys vs) in
    sym (take-append_seam xs us) ∙ ap₂ (λ (n : ℕ) (zs : List Bit). take n zs) same whole ∙ take-append_seam ys vs

pub narrowed : (degree k terms lower register : ℕ) (a : List Bit) → degree + k ≡ 32 → 2 ^ 32 + lower ≡ terms * 2 ^ k → HoldsParity 32 (2 ^ 32 + lower) a register → HoldsParity degree terms a (register / 2 ^ k)
narrowed degree k terms lower register a width shifted known =
    let high : ℕ = register / 2 ^ k in
    let q : List Bit = known.parity.quotient in
    let g : List Bit = lowest_bits (suc degree) terms in
    let wider : suc 32 ≡ suc degree + k = omega arith in
    let wide : lowest_bits (suc 32) (2 ^ 32 + lower) ≡ g ++ replicate k Zero =
    ap₂ lowest_bits wider shifted ∙ lowest_bits-shifted (suc degree) k terms in
    let held : lowest_bits 32 register ≡ lowest_bits degree high ++ lowest_bits k register = ap (λ n. lowest_bits n register) (sym width) ∙ lowest_bits-split degree k register in
    let long : 1 ≤ length g = omega (arith, length-lowest_bits (suc degree) terms) in
    let product : (a ++ lowest_bits degree high) ++ lowest_bits k register ≡ times g q ++ replicate k Zero =
    append_assoc a (lowest_bits degree high) (lowest_bits k register) ∙ ap (λ p. a ++ p) (sym held) ∙ known.parity.product ∙ ap (λ g. times g q) wide ∙ times-shifted g q k long in
    record {
      small = shr_below register degree k (rw width known.small);
      parity = record {
        size = omega (arith, length-lowest_bits degree high, length-lowest_bits (suc degree) terms);
        quotient = q;
        product = fronts (a ++ lowest_bits degree high) (times g q) (lowest_bits k register) (replicate k Zero) product (omega (arith, length-lowest_bits k register, length-replicate k Zero));
      };
    }
