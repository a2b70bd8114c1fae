use Rattle.std.proofs.Common.{◌≡◌, ◌≤◌, ◌*◌}
use Rattle.dch_types.specs.Sums.{total}
use Rattle.dch_frame.specs.Uplinks.{weight_of}
use Rattle.dch_frame.proofs.uplink_plan.whole_weight.Given as goal

abbrev pub invariant-loop-i : goal.invariant-loop-i
invariant-loop-i l = (l.weight ≡ total (weight_of l.side l.c) l.i) × (l.weight ≤ 33554432 * l.i)
