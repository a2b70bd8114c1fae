use Rattle.std.proofs.Common.{◌≡◌, ◌+◌, ◌-◌, ◌*◌, ◌∙◌, ℕ, List, length, take, drop, arith, ap, subst, length-drop}
use Rattle.std.proofs.lemmas.List.{get_or-drop, length-take-le}
use Rattle.dch_bits.specs.declared.bit.Bit.{Bit}
use Rattle.dch_bits.specs.declared.bit.Bit.TheVariants.{Zero}
use Rattle.dch_bits.specs.Octets.{bit_of_octets}
use Rattle.dch_coding.specs.Parity.{IsCheck, header_polynomial}
use Rattle.dch_accept.specs.Padded.{bits_from}
use Rattle.dch_accept.proofs.Unpacked.{bit_of_part, bits_are, get_or-bits_from, length-bits_from}
use Rattle.dch_iub.proofs.check.header_check.Goals as goal

pub returns-clause-check : goal.returns-clause-check
returns-clause-check c =
    let frame : List ℕ = c.args.frame.now in
    let header : ℕ = c.args.header in
    let part : List ℕ = take header frame in
    let long : length part ≡ header = length-take-le header frame (omega arith) in
    let bits : List Bit = bits_from part 0 (8 * length part) in
    let same : drop 7 bits ≡ bits_from frame 7 (8 * header - 7) =
    bits_are (drop 7 bits) frame 7 (8 * header - 7) (omega (arith, length-drop 7 bits, length-bits_from part 0 (8 * length part), long))
    (λ k inside.
    let first : 0 + (7 + k) ≡ 7 + k = omega arith in
    let place : 8 * 0 + (7 + k) ≡ 7 + k = omega arith in
    get_or-drop 7 bits k Zero ∙ get_or-bits_from part 0 (8 * length part) (7 + k) (omega (arith, long, inside)) ∙ ap (bit_of_octets part) first
    ∙ bit_of_part frame 0 header (7 + k) (omega (arith, inside)) ∙ ap (bit_of_octets frame) place) in
    subst (λ (bs : List Bit). IsCheck header_polynomial bs c.header_check.result) same c.header_check.ensures.check
