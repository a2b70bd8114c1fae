use Rattle.dch_frame.specs.Downlinks.{IsRow}
use Rattle.dch_frame.proofs.downlink_plan.row.Given as goal

abbrev pub invariant-loop-f : goal.invariant-loop-f
invariant-loop-f l = IsRow l.config l.i l.f l.row
