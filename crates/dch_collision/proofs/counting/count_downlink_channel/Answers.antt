use Rattle.std.proofs.Common.{sym, arith}
use Rattle.dch_types.proofs.Sums.{total-zero, total-more}
use Rattle.dch_collision.specs.Counted.{downlink_count}
use Rattle.dch_collision.proofs.counting.count_downlink_channel.Goals as goal

pub loop-f-init : goal.loop-f-init
loop-f-init c = (sym (total-zero (downlink_count c.args.config.now c.args.i)), omega arith)

pub loop-f-preserved : goal.loop-f-preserved
loop-f-preserved c = (
  omega (arith, total-more (downlink_count c.args.config.now c.args.i) c.loop-f.f, c.loop-f.invariant.0, c.count_downlink_format-sum.ensures.value),
  omega (arith, c.loop-f.invariant.1, c.count_downlink_format-sum.ensures.small),
)
