-- A register that holds a block's parity, as the parity that is attached and as a check.
use Rattle.std.proofs.Common.{◌≡◌, ◌+◌, ◌-◌, ◌*◌, ◌/◌, ◌^◌, ◌<◌, ◌≤◌, ◌++◌, ◌∷◌, ℕ, suc, List, length, drop, reverse, arith, refl, ap, sym, ◌∙◌, length-append}
use Rattle.std.proofs.lemmas.List.{length-reverse}
use Rattle.dch_bits.specs.declared.bit.Bit.{Bit}
use Rattle.dch_bits.specs.declared.bit.Bit.TheVariants.{One}
use Rattle.dch_types.specs.declared.channel.Crc.{Crc}
use Rattle.dch_types.specs.declared.channel.Crc.TheVariants.{C0, C8, C12, C16, C24}
use Rattle.dch_types.specs.Lengths.{crc_size}
use Rattle.dch_coding.specs.Parity.{polynomial, header_polynomial, payload_polynomial, IsAttached, IsCheck}
use Rattle.dch_coding.specs.Register.{lowest_bits, HoldsParity, aligned_terms, terms_of}
use Rattle.dch_coding.proofs.Registers.{terms_bits, number_of-lowest_bits}
use Rattle.dch_coding.proofs.Unique.{parity_one}

-- the terms of each polynomial
pub terms_are : (kind : Crc) → lowest_bits (suc (crc_size kind)) (terms_of kind) ≡ polynomial kind
unfolding lowest_bits polynomial
terms_are C0 = refl
terms_are C8 = refl
terms_are C12 = refl
terms_are C16 = refl
terms_are C24 = refl

pub terms_first : (kind : Crc) → terms_of kind / 2 ^ crc_size kind ≡ 1
terms_first C0 = refl
terms_first C8 = refl
terms_first C12 = refl
terms_first C16 = refl
terms_first C24 = refl

pub header_terms : lowest_bits 8 197 ≡ header_polynomial
unfolding lowest_bits header_polynomial
header_terms = refl

pub payload_terms : lowest_bits 17 98309 ≡ payload_polynomial
unfolding lowest_bits payload_polynomial
payload_terms = refl

-- and where they stand in a register of 32 bits
pub terms_aligned : (kind : Crc) → 2 ^ 32 + aligned_terms kind ≡ terms_of kind * 2 ^ (32 - crc_size kind)
terms_aligned C0 = refl
terms_aligned C8 = refl
terms_aligned C12 = refl
terms_aligned C16 = refl
terms_aligned C24 = refl

pub aligned_small : (kind : Crc) → aligned_terms kind < 2 ^ 32
aligned_small C0 = omega arith
aligned_small C8 = omega arith
aligned_small C12 = omega arith
aligned_small C16 = omega arith
aligned_small C24 = omega arith

pub crc_small : (kind : Crc) → crc_size kind ≤ 24
crc_small C0 = omega arith
crc_small C8 = omega arith
crc_small C12 = omega arith
crc_small C16 = omega arith
crc_small C24 = omega arith

pub attached : (kind : Crc) (degree terms n : ℕ) (block out : List Bit) → lowest_bits (suc degree) terms ≡ polynomial kind → HoldsParity degree terms block n → out ≡ block ++ reverse (lowest_bits degree n) → IsAttached kind block out
attached kind degree terms n block out is holds whole = record {
  parity = lowest_bits degree n;
  is = rw is at holds.parity;
  whole = whole;
}

pub attached_back : (kind : Crc) (degree terms n : ℕ) (block out : List Bit) → lowest_bits (suc degree) terms ≡ polynomial kind → terms / 2 ^ degree ≡ 1 → HoldsParity degree terms block n → IsAttached kind block out → out ≡ block ++ reverse (lowest_bits degree n)
attached_back kind degree terms n block out is first holds known =
    let g : polynomial kind ≡ One ∷ lowest_bits degree terms = sym is ∙ terms_bits degree terms first in
    let same : known.parity ≡ lowest_bits degree n =
    parity_one (lowest_bits degree terms) block known.parity (lowest_bits degree n) (rw g at known.is) (rw (terms_bits degree terms first) at holds.parity) in
    known.whole ∙ ap (λ p. block ++ reverse p) same

pub checked : (g : List Bit) (degree terms n : ℕ) (block : List Bit) → lowest_bits (suc degree) terms ≡ g → HoldsParity degree terms block n → IsCheck g block n
checked g degree terms n block is holds = record {
  parity = lowest_bits degree n;
  is = rw is at holds.parity;
  number = sym (number_of-lowest_bits degree n holds.small);
}

low_of : Crc → List Bit
low_of kind = drop 1 (polynomial kind)

-- each polynomial has a first term
polynomial_first : (kind : Crc) → polynomial kind ≡ One ∷ low_of kind
unfolding polynomial low_of
polynomial_first C0 = refl
polynomial_first C8 = refl
polynomial_first C12 = refl
polynomial_first C16 = refl
polynomial_first C24 = refl

pub length-polynomial : (kind : Crc) → length (polynomial kind) ≡ crc_size kind + 1
unfolding polynomial
length-polynomial C0 = refl
length-polynomial C8 = refl
length-polynomial C12 = refl
length-polynomial C16 = refl
length-polynomial C24 = refl

pub attached_one : (kind : Crc) (block out other : List Bit) → IsAttached kind block out → IsAttached kind block other → out ≡ other
attached_one kind block out other first second =
    let g : polynomial kind ≡ One ∷ low_of kind = polynomial_first kind in
    let same : first.parity ≡ second.parity = parity_one (low_of kind) block first.parity second.parity (rw g at first.is) (rw g at second.is) in
    first.whole ∙ ap (λ p. block ++ reverse p) same ∙ sym second.whole

pub length-attached : (kind : Crc) (block out : List Bit) → IsAttached kind block out → length out ≡ length block + crc_size kind
length-attached kind block out known =
    omega (arith, ap length known.whole, length-append block (reverse known.parity), length-reverse known.parity, known.is.size, length-polynomial kind)
