-- The checks of a frame are numbers that its bits alone give.
use Rattle.std.proofs.Common.{◌≡◌, ℕ, List, ◌∷◌, drop, refl, ap, sym, subst, ◌∙◌}
use Rattle.dch_bits.specs.declared.bit.Bit.{Bit}
use Rattle.dch_bits.specs.declared.bit.Bit.TheVariants.{One}
use Rattle.dch_coding.specs.Parity.{IsCheck, header_polynomial, payload_polynomial, number_of_bits}
use Rattle.dch_coding.proofs.Unique.{parity_one}

one_check : (low a : List Bit) (x y : ℕ) → IsCheck (One ∷ low) a x → IsCheck (One ∷ low) a y → x ≡ y
one_check low a x y first second = first.number ∙ ap number_of_bits (parity_one low a first.parity second.parity first.is second.is) ∙ sym second.number

header_first : header_polynomial ≡ One ∷ drop 1 header_polynomial
unfolding header_polynomial
header_first = refl

payload_first : payload_polynomial ≡ One ∷ drop 1 payload_polynomial
unfolding payload_polynomial
payload_first = refl

pub one_header_check : (a : List Bit) (x y : ℕ) → IsCheck header_polynomial a x → IsCheck header_polynomial a y → x ≡ y
one_header_check a x y first second =
    let P : List Bit → ℕ → Type 0 = λ g n. IsCheck g a n in
    one_check (drop 1 header_polynomial) a x y (subst (λ (g : List Bit). P g x) header_first first) (subst (λ (g : List Bit). P g y) header_first second)

pub one_payload_check : (a : List Bit) (x y : ℕ) → IsCheck payload_polynomial a x → IsCheck payload_polynomial a y → x ≡ y
one_payload_check a x y first second =
    let P : List Bit → ℕ → Type 0 = λ g n. IsCheck g a n in
    one_check (drop 1 payload_polynomial) a x y (subst (λ (g : List Bit). P g x) payload_first first) (subst (λ (g : List Bit). P g y) payload_first second)
