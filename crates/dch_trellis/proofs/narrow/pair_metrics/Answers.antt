use Rattle.std.proofs.Common.{◌≡◌, ◌+◌, ◌*◌, ◌/◌, ◌<◌, ◌≤◌, ℕ, List, get_or, ap, ap₂, ◌∙◌, arith, ⊎_elim}
use Rattle.std.proofs.lemmas.Bool.{cases_lt}
use Rattle.dch_trellis.proofs.narrow.pair_metrics.Goals as goal

pub loop-block-preserved : goal.loop-block-preserved
loop-block-preserved c = λ i below.
    let at : ℕ = 8 * c.loop-block.block in
    let places : List ℕ = c.args.places.now in
    let class : ℕ = get_or places (2 * i) 0 / 2 in
    let even : 2 * (2 * i / 2) ≡ 2 * i = omega arith in
    let odd : 2 * ((2 * i + 1) / 2) ≡ 2 * i = omega arith in
    let first : get_or places (2 * i) 0 ≡ 2 * class = omega (arith, c.requires.places (2 * i) (omega arith), ap (λ n. get_or places n 0 / 2) even) in
    let second : get_or places (2 * i + 1) 0 ≡ 2 * class + 1 = omega (arith, c.requires.places (2 * i + 1) (omega arith), ap (λ n. get_or places n 0 / 2) odd) in
    ⊎_elim
    (λ (old : i < at). c.look_up.ensures.before i old ∙ c.loop-block.invariant i old)
    (λ (new : at ≤ i).
    c.look_up.ensures.here i new (omega arith)
    ∙ ap₂ (λ x y. get_or c.metric_bytes-metrics.result x 0 + 256 * get_or c.metric_bytes-metrics.result y 0) first second
    ∙ c.metric_bytes-metrics.ensures.value class (omega (arith, c.requires.classes (2 * i) (omega arith))))
    (cases_lt i at)
