use Rattle.std.proofs.Common.{◌≡◌, ◌+◌, ◌*◌, ◌/◌, ◌%◌, ◌<◌, ℕ, ap, ◌∙◌, arith, get_or}
use Rattle.dch_bits.specs.declared.bit.Bit.TheVariants.{Zero}
use Rattle.dch_bits.specs.Bits.{number_of}
use Rattle.dch_bits.proofs.Places.{number_below}
use Rattle.dch_coding.specs.Register.{lowest_bits}
use Rattle.dch_coding.proofs.Gathered.{bits_joined, gathered}
use Rattle.dch_coding.proofs.words.octet_of.Goals as goal

pub returns : goal.returns
returns c =
    let n : ℕ → ℕ = λ i. number_of (get_or c.args.bits.now i Zero) in
    let small : (i : ℕ) → n i < 2 = λ i. number_below (get_or c.args.bits.now i Zero) in
    let sum : c.at_octet.result + c.at_octet-2.result + c.at_octet-3.result + c.at_octet-4.result + c.at_octet-5.result + c.at_octet-6.result + c.at_octet-7.result + c.at_octet-8.result
    ≡ n 0 + n 1 * 256 + n 2 * 65536 + n 3 * 16777216 + n 4 * 4294967296 + n 5 * 1099511627776 + n 6 * 281474976710656 + n 7 * 72057594037927936 = omega arith in
    ap (λ s. lowest_bits 8 (s * 9241421688590303745 % 18446744073709551616 / 72057594037927936)) sum
    ∙ ap (lowest_bits 8) (gathered (n 0) (n 1) (n 2) (n 3) (n 4) (n 5) (n 6) (n 7) (small 0) (small 1) (small 2) (small 3) (small 4) (small 5) (small 6) (small 7))
    ∙ bits_joined c.args.bits.now c.requires
