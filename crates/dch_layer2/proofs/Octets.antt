-- Octets as bits and back.
use Rattle.std.proofs.Common.{◌≡◌, ◌+◌, ◌-◌, ◌*◌, ◌/◌, ◌%◌, ◌<◌, ◌≤◌, ℕ, zero, suc, List, [], ◌∷◌, ◌++◌, Option, Some, None, length, drop, arith, refl, ap, ap₂, ◌∙◌}
use Rattle.std.specs.Prelude.{◌==◌, if◌then◌else◌}
use Rattle.std.specs.Int.{bit_at}
use Rattle.std.proofs.lemmas.Nat.Bits.{bit_at-lt}
use Rattle.dch_bits.specs.declared.bit.Bit.{Bit}
use Rattle.dch_bits.specs.declared.bit.Bit.TheVariants.{Zero, One}
use Rattle.dch_bits.specs.Bits.{number_of}
use Rattle.dch_bits.specs.Octets.{octet_bit}
use Rattle.dch_mac.specs.Field.{field_bits, field_of}
use Rattle.dch_layer2.specs.Octets.{AreOctets, bits_of, block_of, field_for, number_from, octet_bits, octets_from, octets_of}

-- a bit as a number
bit_is : (x j : ℕ) → number_of (octet_bit x j) ≡ bit_at x (7 - j)
bit_is x j = small (bit_at x (7 - j)) (bit_at-lt x (7 - j))
  where
    small : (n : ℕ) → n < 2 → number_of (if n == 1 then One else Zero) ≡ n
    small zero h = refl
    small (suc zero) h = refl
    small (suc (suc n)) h = absurd (omega arith)

-- the bits of an octet write it
octet_is : (x : ℕ) → x < 256 → number_from 0 (octet_bits x) ≡ x
octet_is x l =
    let a : number_of (octet_bit x 0) ≡ x / 128 % 2 = bit_is x 0 in
    let b : number_of (octet_bit x 1) ≡ x / 64 % 2 = bit_is x 1 in
    let c : number_of (octet_bit x 2) ≡ x / 32 % 2 = bit_is x 2 in
    let d : number_of (octet_bit x 3) ≡ x / 16 % 2 = bit_is x 3 in
    let e : number_of (octet_bit x 4) ≡ x / 8 % 2 = bit_is x 4 in
    let f : number_of (octet_bit x 5) ≡ x / 4 % 2 = bit_is x 5 in
    let g : number_of (octet_bit x 6) ≡ x / 2 % 2 = bit_is x 6 in
    let h : number_of (octet_bit x 7) ≡ x / 1 % 2 = bit_is x 7 in
    let a' : x / 128 % 2 ≡ x / 128 = omega (arith, l) in
    let b' : 2 * (x / 128) + x / 64 % 2 ≡ x / 64 = omega arith in
    let c' : 2 * (x / 64) + x / 32 % 2 ≡ x / 32 = omega arith in
    let d' : 2 * (x / 32) + x / 16 % 2 ≡ x / 16 = omega arith in
    let e' : 2 * (x / 16) + x / 8 % 2 ≡ x / 8 = omega arith in
    let f' : 2 * (x / 8) + x / 4 % 2 ≡ x / 4 = omega arith in
    let g' : 2 * (x / 4) + x / 2 % 2 ≡ x / 2 = omega arith in
    let h' : 2 * (x / 2) + x / 1 % 2 ≡ x = omega arith in
    steps (number_of (octet_bit x 0)) (number_of (octet_bit x 1)) (number_of (octet_bit x 2)) (number_of (octet_bit x 3)) (number_of (octet_bit x 4)) (number_of (octet_bit x 5)) (number_of (octet_bit x 6)) (number_of (octet_bit x 7))
    (x / 128) (x / 64) (x / 32) (x / 16) (x / 8) (x / 4) (x / 2)
    (a ∙ a') (ap (λ n. 2 * (x / 128) + n) b ∙ b') (ap (λ n. 2 * (x / 64) + n) c ∙ c') (ap (λ n. 2 * (x / 32) + n) d ∙ d') (ap (λ n. 2 * (x / 16) + n) e ∙ e') (ap (λ n. 2 * (x / 8) + n) f ∙ f') (ap (λ n. 2 * (x / 4) + n) g ∙ g') (ap (λ n. 2 * (x / 2) + n) h ∙ h')
  where
    steps : (a b c d e f g h p q r s t u v : ℕ) {x : ℕ} → a ≡ p → 2 * p + b ≡ q → 2 * q + c ≡ r → 2 * r + d ≡ s → 2 * s + e ≡ t → 2 * t + f ≡ u → 2 * u + g ≡ v → 2 * v + h ≡ x → 2 * (2 * (2 * (2 * (2 * (2 * (2 * (2 * 0 + a) + b) + c) + d) + e) + f) + g) + h ≡ x
    steps a b c d e f g h p q r s t u v i j k l m n o w = omega arith

from_bits : (xs : List ℕ) → AreOctets xs → octets_from (length xs) (bits_of xs) ≡ xs
from_bits [] are = refl
from_bits (x ∷ xs) are = ap₂ (λ y ys. y ∷ ys) (octet_is x are.0) (from_bits xs are.1)

length-bits : (xs : List ℕ) → length (bits_of xs) ≡ 8 * length xs
length-bits [] = refl
length-bits (x ∷ xs) = omega (arith, length-bits xs)

-- octets are read as they were written
pub octets_back : (xs : List ℕ) → AreOctets xs → octets_of (bits_of xs) ≡ xs
octets_back xs are =
    let n : length (bits_of xs) / 8 ≡ length xs = omega (arith, length-bits xs) in
    ap (λ k. octets_from k (bits_of xs)) n ∙ from_bits xs are

-- behind the field
pub behind_field : (ct : Option ℕ) (bits : List Bit) → drop (field_bits ct) (field_for ct ++ bits) ≡ bits
behind_field None bits = refl
behind_field (Some c) bits = refl

pub block_back : (ct : Option ℕ) (xs : List ℕ) → AreOctets xs → octets_of (drop (field_bits ct) (block_of ct xs)) ≡ xs
block_back ct xs are = ap octets_of (behind_field ct (bits_of xs)) ∙ octets_back xs are

-- the field says the logical channel
pub field_is : (c : ℕ) (bits : List Bit) → 1 ≤ c → c ≤ 15 → field_of (field_for (Some c) ++ bits) + 1 ≡ c
field_is c bits low high =
    let n : ℕ = c - 1 in
    let a : number_of (octet_bit n 4) ≡ n / 8 % 2 = bit_is n 4 in
    let b : number_of (octet_bit n 5) ≡ n / 4 % 2 = bit_is n 5 in
    let d : number_of (octet_bit n 6) ≡ n / 2 % 2 = bit_is n 6 in
    let e : number_of (octet_bit n 7) ≡ n / 1 % 2 = bit_is n 7 in
    omega (arith, a, b, d, e)
