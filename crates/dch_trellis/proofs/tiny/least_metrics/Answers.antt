use Rattle.std.proofs.Common.{◌+◌, ◌*◌, ◌<◌, ◌≤◌, ◌∙◌, ℕ, get_or, arith, ⊎_elim}
use Rattle.std.proofs.lemmas.Bool.{cases_lt}
use Rattle.dch_trellis.specs.Classes.{lesser_near}
use Rattle.dch_trellis.proofs.Pairs.{from_halves}
use Rattle.dch_trellis.proofs.tiny.least_metrics.Goals as goal

pub loop-block-preserved : goal.loop-block-preserved
loop-block-preserved c =
    let at : ℕ = 16 * c.loop-block.block in
    record {
      even = λ i below. ⊎_elim
          (λ (old : i < at). c.least_block.ensures.before (2 * i) (omega arith) ∙ c.loop-block.invariant.even i old)
          (λ (new : at ≤ i). c.least_block.ensures.even i new (omega arith))
          (cases_lt i at);
      odd = λ i below. ⊎_elim
          (λ (old : i < at). c.least_block.ensures.before (2 * i + 1) (omega arith) ∙ c.loop-block.invariant.odd i old)
          (λ (new : at ≤ i). c.least_block.ensures.odd i new (omega arith))
          (cases_lt i at);
    }

pub returns : goal.returns
returns c = from_halves (λ s. get_or c.loop-block.path_metrics s 0) (lesser_near c.args.later.now c.args.near.now c.args.total)
    (λ i inside. c.loop-block.invariant.even i (omega arith))
    (λ i inside. c.loop-block.invariant.odd i (omega arith))
