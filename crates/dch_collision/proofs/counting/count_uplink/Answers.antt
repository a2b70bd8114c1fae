use Rattle.std.proofs.Common.{sym, arith}
use Rattle.dch_types.proofs.Sums.{total-zero, total-more}
use Rattle.dch_collision.specs.Counted.{uplink_count, in_channel}
use Rattle.dch_collision.proofs.counting.count_uplink.Goals as goal

pub loop-i-init : goal.loop-i-init
loop-i-init c = (sym (total-zero (in_channel c.args.config.now.side (uplink_count c.args.config.now))), omega arith)

pub loop-i-preserved : goal.loop-i-preserved
loop-i-preserved c = (
  omega (arith, total-more (in_channel c.args.config.now.side (uplink_count c.args.config.now)) c.loop-i.i, c.loop-i.invariant.0, c.count_uplink_channel-sum.ensures.value),
  omega (arith, c.loop-i.invariant.1, c.count_uplink_channel-sum.ensures.small),
)
