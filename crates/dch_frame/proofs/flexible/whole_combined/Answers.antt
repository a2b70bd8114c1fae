use Rattle.std.proofs.Common.{sym, arith}
use Rattle.dch_types.proofs.Sums.{total-zero, total-more}
use Rattle.dch_frame.specs.Downlinks.{combined}
use Rattle.dch_frame.proofs.flexible.whole_combined.Goals as goal

pub loop-i-init : goal.loop-i-init
loop-i-init c = (sym (total-zero (combined c.args.side.now c.args.c)), omega arith)

pub loop-i-preserved : goal.loop-i-preserved
loop-i-preserved c = (omega (arith, total-more (combined c.args.side.now c.args.c) c.loop-i.i), omega arith)
