use Rattle.std.proofs.Common.{◌+◌, subst, sym}
use Rattle.dch_frame.specs.Downlinks.{IsRow}
use Rattle.dch_frame.proofs.Fits.{row_more}
use Rattle.dch_frame.proofs.downlink_plan.row.Goals as goal

pub loop-f-preserved : goal.loop-f-preserved
loop-f-preserved c = subst (IsRow c.args.config.now c.args.i (c.loop-f.f + 1)) (sym c.in_ok-push.ensures.ok) (row_more c.args.config.now c.args.i c.loop-f.f c.loop-f.row c.match_format.result c.loop-f.invariant c.match_format.ensures)
