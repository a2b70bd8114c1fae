use Rattle.std.proofs.Common.{sym, arith}
use Rattle.dch_types.proofs.Sums.{total-zero, total-more}
use Rattle.dch_frame.specs.Downlinks.{fixed_weight}
use Rattle.dch_frame.proofs.fixed.whole_fixed.Goals as goal

pub loop-i-init : goal.loop-i-init
loop-i-init c = (sym (total-zero (fixed_weight c.args.side.now)), omega arith)

pub loop-i-preserved : goal.loop-i-preserved
loop-i-preserved c = (omega (arith, total-more (fixed_weight c.args.side.now) c.loop-i.i), omega arith)
