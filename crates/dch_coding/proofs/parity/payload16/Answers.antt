use Rattle.std.proofs.Common.{◌+◌, ◌/◌, ◌^◌, ◌++◌, ℕ, List, arith, ap}
use Rattle.dch_bits.specs.declared.bit.Bit.{Bit}
use Rattle.dch_coding.specs.Parity.{payload_polynomial, bits_of_octets}
use Rattle.dch_coding.specs.Register.{lowest_bits, HoldsParity}
use Rattle.dch_coding.proofs.Aligned.{narrowed}
use Rattle.dch_coding.proofs.Attached.{checked, payload_terms}
use Rattle.dch_coding.proofs.Registers.{lowest_bits-zero}
use Rattle.dch_coding.proofs.Tables.{fewer_zeros}
use Rattle.dch_coding.proofs.parity.payload16.Goals as goal

pub returns : goal.returns
returns c =
    let block : List Bit = bits_of_octets c.args.octets.now in
    let register : ℕ = c.parity_of_octets.result in
    let terms : ℕ = 2147811328 in
    let held : HoldsParity 32 (2 ^ 32 + terms) block register =
    fewer_zeros terms 8 register (lowest_bits 8 0 ++ block) block (omega arith) (ap (λ xs. xs ++ block) (lowest_bits-zero 8))
    (c.parity_of_octets.ensures terms (omega arith) c.payload_words.ensures) in
    let low : HoldsParity 16 98309 block (register / 2 ^ 16) = narrowed 16 16 98309 terms register block (omega arith) (omega arith) held in
    checked payload_polynomial 16 98309 (register / 2 ^ 16) block payload_terms low
