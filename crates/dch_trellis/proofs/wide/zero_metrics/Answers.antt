use Rattle.std.proofs.Common.{◌≡◌, ◌+◌, ◌-◌, ◌∙◌, ap, ap₂, sym, get_or, arith}
use Rattle.std.proofs.lemmas.Grind.{common_steps}
use Rattle.dch_trellis.specs.Steps.{by_zero, near, total}
use Rattle.dch_trellis.proofs.Pairs.{pair_more, by_zero-even, by_zero-odd}
use Rattle.dch_trellis.proofs.wide.zero_metrics.Goals as goal

pub loop-i-preserved : goal.loop-i-preserved
loop-i-preserved c =
    let near_is : c.differing_of.result + c.differing_of-in-loop-i.result + c.differing_of-in-loop-i-2.result ≡ near c.args.table.now c.args.step.now c.loop-i.i = grind (arith, common_steps) in
    let total_is : c.total_of-total.result ≡ total c.args.step.now = c.total_of-total.ensures in
    pair_more (by_zero c.args.later.now c.args.table.now c.args.step.now) c.loop-i.path_metrics c.loop-i.i _ _ (omega arith)
    (ap (λ n. get_or c.args.later.now c.loop-i.i 0 + n) near_is ∙ sym (by_zero-even c.args.later.now c.args.table.now c.args.step.now c.loop-i.i))
    (ap₂ (λ n t. get_or c.args.later.now c.loop-i.i 0 + (t - n)) near_is total_is ∙ sym (by_zero-odd c.args.later.now c.args.table.now c.args.step.now c.loop-i.i))
    c.loop-i.invariant
