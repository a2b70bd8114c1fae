use Rattle.std.proofs.Common.{◌≡◌, ◌≤◌, ◌+◌, ◌%◌, ℕ, get_or, take, sum_by, ap, ◌∙◌, arith}
use Rattle.std.proofs.lemmas.List.{take_all}
use Rattle.std.proofs.lemmas.Nat.Bits.{bit_at_lowest}
use Rattle.std.proofs.lemmas.List.Sums.{sum_by_more}
use Rattle.dch_bits.specs.declared.bit.Bit.TheVariants.{Zero}
use Rattle.dch_bits.specs.Bits.{bit_of_number}
use Rattle.dch_coding.proofs.Steps.{near_at, number_le}
use Rattle.dch_trellis.specs.Inverse.{bit_from}
use Rattle.dch_trellis.proofs.inverse.sum_from.Goals as goal

pub loop-d-preserved : goal.loop-d-preserved
loop-d-preserved c =
    let i : ℕ = c.loop-d.d-index in
    let d : ℕ = get_or c.args.distances.now i 0 in
    let near : d ≤ 23 = near_at 23 c.args.distances.now i c.requires.near (omega arith) in
    record {
      summed = omega (arith, c.loop-d.invariant.summed, sum_by_more (bit_from c.args.bits.now c.args.from) c.args.distances.now i 0 (omega arith), c.number.ensures, c.from-sum.ensures);
      small = omega (arith, number_le (get_or c.args.bits.now (c.args.from + d) Zero), c.number.ensures, c.from-sum.ensures);
    }

pub returns : goal.returns
returns c =
    let whole : take c.loop-d.d-index c.args.distances.now ≡ c.args.distances.now = take_all c.loop-d.d-index c.args.distances.now c.loop-d-test.false in
    c.bit_at.ensures.bit ∙ ap bit_of_number (bit_at_lowest c.loop-d.sum) ∙ ap (λ sum. bit_of_number (sum % 2)) (c.loop-d.invariant.summed ∙ ap (λ distances. sum_by (bit_from c.args.bits.now c.args.from) distances) whole)
