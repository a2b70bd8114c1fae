-- The header of a frame.
use Rattle.std.proofs.Common.{◌≡◌, ◌≢◌, ◌<◌, ◌+◌, ◌*◌, ◌/◌, ◌%◌, ◌∙◌, ℕ, zero, suc, List, length, get_or, arith, ap, sym, get_or-set_other, get_or-set_same}
use Rattle.std.specs.Prelude.{slice_set, if◌then◌else◌, ◌==◌}
use Rattle.std.specs.Int.{bit_at}
use Rattle.dch_bits.specs.declared.bit.Bit.TheVariants.{Zero, One}
use Rattle.dch_bits.specs.Octets.{bit_of_octets, octet_bit}
use Rattle.dch_accept.specs.Padded.{bits_from}
use Rattle.dch_iub.proofs.Fronts.{bits_from-same}

-- the lowest bit of an even octet
even_bit : (check : ℕ) → octet_bit (2 * check) 7 ≡ octet_bit 0 7
even_bit check = ap (λ (b : ℕ). if b == 1 then One else Zero) (let even : bit_at (2 * check) 0 ≡ 0 = omega arith in even)

-- the bits after the check, where the first octet was zero and gets the check
pub header_bits : (xs : List ℕ) (check n : ℕ) → 0 < length xs → get_or xs 0 0 ≡ 0 → bits_from (slice_set xs 0 (2 * check)) 7 n ≡ bits_from xs 7 n
header_bits xs check n some none = bits_from-same (slice_set xs 0 (2 * check)) xs 7 n (λ k inside. bit k)
  where
    bit : (k : ℕ) → bit_of_octets (slice_set xs 0 (2 * check)) (7 + k) ≡ bit_of_octets xs (7 + k)
    bit zero =
        let here : get_or (slice_set xs 0 (2 * check)) 0 0 ≡ 2 * check = rw get_or-set_same in
        ap (λ octet. octet_bit octet 7) here ∙ even_bit check ∙ ap (λ octet. octet_bit octet 7) (sym none)
    bit (suc k) =
        let other : (7 + suc k) / 8 ≢ 0 = omega arith in
        ap (λ octet. octet_bit octet ((7 + suc k) % 8)) (rw get_or-set_other)
