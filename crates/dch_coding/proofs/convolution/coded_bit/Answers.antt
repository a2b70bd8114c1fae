use Rattle.std.proofs.Common.{◌≡◌, ◌≤◌, ◌+◌, ◌-◌, ◌%◌, ℕ, get_or, take, sum_by, ap, ◌∙◌, arith}
use Rattle.std.proofs.lemmas.List.{take_all}
use Rattle.std.proofs.lemmas.Nat.Bits.{bit_at_lowest}
use Rattle.std.proofs.lemmas.List.Sums.{sum_by_more}
use Rattle.dch_bits.specs.declared.bit.Bit.TheVariants.{Zero}
use Rattle.dch_bits.specs.Bits.{bit_of_number}
use Rattle.dch_coding.specs.Conv.{input}
use Rattle.dch_coding.proofs.Steps.{near_at, number_le}
use Rattle.dch_coding.proofs.convolution.coded_bit.Goals as goal

pub loop-d-preserved : goal.loop-d-preserved
loop-d-preserved c =
    let i : ℕ = c.loop-d.d-index in
    let d : ℕ = get_or c.args.taps.now i 0 in
    let near : d ≤ 8 = near_at 8 c.args.taps.now i c.requires.near (omega arith) in
    record {
      summed = λ block feeds. omega (arith, c.loop-d.invariant.summed block feeds, sum_by_more (input block c.args.k) c.args.taps.now i 0 (omega arith), feeds.at c.args.k d c.requires.step near, c.number.ensures, c.from-sum.ensures);
      small = omega (arith, number_le (get_or c.args.inputs.now (c.args.k + 8 - d) Zero), c.number.ensures, c.from-sum.ensures);
    }

pub returns : goal.returns
returns c = λ block feeds.
    let whole : take c.loop-d.d-index c.args.taps.now ≡ c.args.taps.now = take_all c.loop-d.d-index c.args.taps.now c.loop-d-test.false in
    c.bit_at.ensures.bit ∙ ap bit_of_number (bit_at_lowest c.loop-d.sum) ∙ ap (λ sum. bit_of_number (sum % 2)) (c.loop-d.invariant.summed block feeds ∙ ap (λ taps. sum_by (input block c.args.k) taps) whole)
