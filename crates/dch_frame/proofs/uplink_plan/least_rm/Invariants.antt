use Rattle.std.proofs.Common.{◌≡◌, ◌≤◌}
use Rattle.dch_frame.specs.Uplinks.{least_rm}
use Rattle.dch_frame.proofs.uplink_plan.least_rm.Given as goal

abbrev pub invariant-loop-i : goal.invariant-loop-i
invariant-loop-i l = (l.least ≡ least_rm l.side l.i) × (l.least ≤ 256)
