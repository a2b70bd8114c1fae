-- The parities of words of 32 bits.
use Rattle.std.proofs.Common.{◌≡◌, ◌+◌, ◌*◌, ◌/◌, ◌%◌, ◌^◌, ◌<◌, ◌≤◌, ℕ, suc, List, [], ◌∷◌, ◌++◌, length, replicate, arith, ap, ap₂, sym, subst, ◌∙◌, append-nil}
use Rattle.std.specs.Int.Bits.{bit_xor, xor_zero_l, xor_zero_r}
use Rattle.std.proofs.lemmas.Nat.{xor_lt, xor_block, pow_pos, mod-pow-add, mod_below}
use Rattle.dch_bits.specs.declared.bit.Bit.{Bit}
use Rattle.dch_bits.specs.declared.bit.Bit.TheVariants.{Zero, One}
use Rattle.dch_coding.specs.Parity.{add, IsParity}
use Rattle.dch_coding.specs.Register.{lowest_bits, HoldsParity, HoldsWord, word_at}
use Rattle.dch_coding.proofs.Registers.{length-lowest_bits, lowest_bits-xor, lowest_bits-zero, terms_bits, top_one, holds_none}
use Rattle.dch_coding.proofs.Sums.{parity_sum, parity_zeros, parity_fewer, parity_after}

pub first_term : (terms : ℕ) → terms < 2 ^ 32 → (2 ^ 32 + terms) / 2 ^ 32 ≡ 1
first_term terms small = top_one (2 ^ 32 + terms) (2 ^ 32) (omega arith) (omega arith) (omega arith)

some_terms : (terms : ℕ) → 1 ≤ length (lowest_bits (suc 32) (2 ^ 32 + terms))
some_terms terms = omega (arith, length-lowest_bits (suc 32) (2 ^ 32 + terms))

pub word_sum : (terms a b r s : ℕ) → HoldsWord terms a r → HoldsWord terms b s → HoldsWord terms (bit_xor a b) (bit_xor r s)
word_sum terms a b r s first second =
    let g : List Bit = lowest_bits (suc 32) (2 ^ 32 + terms) in
    let same : length (lowest_bits 32 a) ≡ length (lowest_bits 32 b) = length-lowest_bits 32 a ∙ sym (length-lowest_bits 32 b) in
    record {
      small = xor_lt 32 r s first.small second.small;
      parity = subst (λ block. IsParity g block (lowest_bits 32 (bit_xor r s))) (sym (lowest_bits-xor 32 a b))
          (subst (λ p. IsParity g (add (lowest_bits 32 a) (lowest_bits 32 b)) p) (sym (lowest_bits-xor 32 r s))
          (parity_sum g (lowest_bits 32 a) (lowest_bits 32 b) (lowest_bits 32 r) (lowest_bits 32 s) (some_terms terms) same first.parity second.parity));
    }

-- zeros before a block
zeros_before : (terms n r : ℕ) (a b : List Bit) → replicate n Zero ++ a ≡ b → HoldsParity 32 (2 ^ 32 + terms) a r → HoldsParity 32 (2 ^ 32 + terms) b r
zeros_before terms n r a b whole known = record {
  small = known.small;
  parity = subst (λ block. IsParity (lowest_bits (suc 32) (2 ^ 32 + terms)) block (lowest_bits 32 r)) whole
      (parity_zeros (lowest_bits (suc 32) (2 ^ 32 + terms)) a (lowest_bits 32 r) n (some_terms terms) known.parity);
}

-- a block without the zeros before it
pub fewer_zeros : (terms n r : ℕ) (a b : List Bit) → terms < 2 ^ 32 → a ≡ replicate n Zero ++ b → HoldsParity 32 (2 ^ 32 + terms) a r → HoldsParity 32 (2 ^ 32 + terms) b r
fewer_zeros terms n r a b small is known =
    let low : List Bit = lowest_bits 32 (2 ^ 32 + terms) in
    let first : lowest_bits (suc 32) (2 ^ 32 + terms) ≡ One ∷ low = terms_bits 32 (2 ^ 32 + terms) (first_term terms small) in
    let whole : IsParity (One ∷ low) (replicate n Zero ++ b) (lowest_bits 32 r) =
    subst (λ g. IsParity g (replicate n Zero ++ b) (lowest_bits 32 r)) first (subst (λ block. IsParity (lowest_bits (suc 32) (2 ^ 32 + terms)) block (lowest_bits 32 r)) is known.parity) in
    record {
      small = known.small;
      parity = subst (λ g. IsParity g b (lowest_bits 32 r)) (sym first) (parity_fewer low b (lowest_bits 32 r) n whole);
    }

pub word_none : (terms : ℕ) → terms < 2 ^ 32 → HoldsWord terms 0 0
word_none terms small =
    zeros_before terms 32 0 [] (lowest_bits 32 0) (append-nil (replicate 32 Zero) ∙ sym (lowest_bits-zero 32)) (holds_none 32 (2 ^ 32 + terms) (first_term terms small))

-- the register after a word
pub word_after : (terms register word r : ℕ) (a b : List Bit) → lowest_bits 32 word ≡ b → HoldsParity 32 (2 ^ 32 + terms) a register → HoldsWord terms (bit_xor register word) r → HoldsParity 32 (2 ^ 32 + terms) (a ++ b) r
word_after terms register word r a b is known next =
    let g : List Bit = lowest_bits (suc 32) (2 ^ 32 + terms) in
    let p : List Bit = lowest_bits 32 register in
    let sum : lowest_bits 32 (bit_xor register word) ≡ add p b = lowest_bits-xor 32 register word ∙ ap (add p) is in
    let same : length p ≡ length b = length-lowest_bits 32 register ∙ sym (length-lowest_bits 32 word) ∙ ap length is in
    record {
      small = next.small;
      parity = parity_after g a b p (lowest_bits 32 r) (some_terms terms) same known.parity (subst (λ block. IsParity g block (lowest_bits 32 r)) sum next.parity);
    }

-- numbers without a common bit
pub xor_high : (x d e : ℕ) → x < 2 ^ e → bit_xor x (d * 2 ^ e) ≡ d * 2 ^ e + x
xor_high x d e low =
    let block : bit_xor (0 * 2 ^ e + x) (d * 2 ^ e + 0) ≡ bit_xor 0 d * 2 ^ e + bit_xor x 0 = xor_block e 0 d x 0 low (pow_pos e) in
    let left : 0 * 2 ^ e + x ≡ x = omega arith in
    let right : d * 2 ^ e + 0 ≡ d * 2 ^ e = omega arith in
    sym (ap₂ bit_xor left right) ∙ block ∙ ap₂ (λ x y. x * 2 ^ e + y) (xor_zero_l d) (xor_zero_r x)

pub word_at-row : (t n : ℕ) → n < 256 → word_at (256 * t + n) ≡ n * 2 ^ (8 * t)
word_at-row t n low =
    let octet : (256 * t + n) % 256 ≡ n = omega arith in
    let row : (256 * t + n) / 256 ≡ t = omega arith in
    ap₂ (λ n t. n * 2 ^ (8 * t)) octet row

-- a number with one octet more
pub octet_more : (w t : ℕ) → w % 2 ^ (8 * (t + 1)) ≡ bit_xor (w % 2 ^ (8 * t)) (word_at (256 * t + w / 2 ^ (8 * t) % 256))
octet_more w t =
    let x : ℕ = w % 2 ^ (8 * t) in
    let d : ℕ = w / 2 ^ (8 * t) % 256 in
    let more : 8 * (t + 1) ≡ 8 + 8 * t = omega arith in
    let split : w % 2 ^ (8 + 8 * t) ≡ d * 2 ^ (8 * t) + x = mod-pow-add w 8 (8 * t) in
    let low : x < 2 ^ (8 * t) = mod_below w (2 ^ (8 * t)) (pow_pos (8 * t)) in
    let octet : d < 256 = omega arith in
    ap (λ e. w % 2 ^ e) more ∙ split ∙ sym (xor_high x d (8 * t) low) ∙ ap (bit_xor x) (sym (word_at-row t d octet))
