use Rattle.std.proofs.Common.{◌≡◌, ◌+◌, ◌*◌, ℕ, get_or, ap, ◌∙◌, arith}
use Rattle.std.proofs.lemmas.List.{length-set}
use Rattle.dch_bits.specs.declared.bit.Bit.TheVariants.{Zero}
use Rattle.dch_coding.specs.declared.rate.Rate.TheVariants.{Third}
use Rattle.dch_coding.proofs.Steps.{place_more}
use Rattle.dch_trellis.specs.Inverse.{places, sum_from}
use Rattle.dch_trellis.proofs.inverse.third_inputs.Goals as goal

pub loop-j-preserved : goal.loop-j-preserved
loop-j-preserved c = record {
  long = simp length-set c.loop-j.invariant.long;
  summed = place_more (λ i. sum_from c.args.coded.now (3 * c.args.from + i) (places Third)) c.loop-j.sums c.loop-j.j c.sum_from.result (omega arith) c.sum_from.ensures c.loop-j.invariant.summed;
}

pub loop-j-2-preserved : goal.loop-j-2-preserved
loop-j-2-preserved c = λ before k below.
    let j : ℕ = c.loop-j-2.j in
    let place : 3 * c.args.from + 3 * j ≡ 3 * (c.args.from + j) = omega arith in
    place_more (λ k. sum_from c.args.coded.now (3 * k) (places Third)) c.loop-j-2.block (c.args.from + j) (get_or c.loop-j.sums (3 * j) Zero) (omega arith)
    (c.loop-j.invariant.summed (3 * j) (omega arith) ∙ ap (λ at. sum_from c.args.coded.now at (places Third)) place)
    (c.loop-j-2.invariant before)
    k (omega arith)

pub returns : goal.returns
returns c = λ before k below. c.loop-j-2.invariant before k (omega arith)
