use Rattle.std.proofs.Common.{◌+◌, ◌/◌, ◌^◌, ℕ, arith}
use Rattle.dch_coding.specs.Parity.{header_polynomial}
use Rattle.dch_coding.specs.Register.{HoldsParity}
use Rattle.dch_coding.proofs.Aligned.{narrowed}
use Rattle.dch_coding.proofs.Attached.{checked, header_terms}
use Rattle.dch_coding.proofs.parity.header7.Goals as goal

pub returns-clause-check : goal.returns-clause-check
returns-clause-check c =
    let register : ℕ = c.parity_of_bits.result in
    let held : HoldsParity 32 (2 ^ 32 + 2315255808) c.args.bits.now register = c.parity_of_bits.ensures 2315255808 (omega arith) c.header_words.ensures in
    checked header_polynomial 7 197 (register / 2 ^ 25) c.args.bits.now header_terms (narrowed 7 25 197 2315255808 register c.args.bits.now (omega arith) (omega arith) held)
