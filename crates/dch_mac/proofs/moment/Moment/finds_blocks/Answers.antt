use Rattle.std.proofs.Common.{below_more}
use Rattle.dch_mac.proofs.moment.Moment.finds_blocks.Goals as goal

pub loop-i-preserved : goal.loop-i-preserved
loop-i-preserved c = below_more _ _ c.loop-i.invariant (c.row_in.ensures.found.0 c.if-not-row_in.false)
