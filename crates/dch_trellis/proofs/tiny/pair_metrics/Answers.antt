use Rattle.std.proofs.Common.{◌*◌, ◌<◌, ◌≤◌, ℕ, get_or, ◌∙◌, arith, ⊎_elim}
use Rattle.std.proofs.lemmas.Bool.{cases_lt}
use Rattle.dch_trellis.proofs.tiny.pair_metrics.Goals as goal

pub loop-block-preserved : goal.loop-block-preserved
loop-block-preserved c = λ i below.
    let at : ℕ = 16 * c.loop-block.block in
    ⊎_elim
    (λ (old : i < at). c.look_up.ensures.before i old ∙ c.loop-block.invariant i old)
    (λ (new : at ≤ i). c.look_up.ensures.here i new (omega arith) ∙ c.metric_lanes-metrics.ensures (get_or c.args.classes.now i 0) (c.requires.classes i (omega arith)))
    (cases_lt i at)
