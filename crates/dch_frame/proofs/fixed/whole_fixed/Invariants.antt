use Rattle.std.proofs.Common.{◌≡◌, ◌≤◌, ◌*◌}
use Rattle.dch_types.specs.Sums.{total}
use Rattle.dch_frame.specs.Downlinks.{fixed_weight}
use Rattle.dch_frame.proofs.fixed.whole_fixed.Given as goal

abbrev pub invariant-loop-i : goal.invariant-loop-i
invariant-loop-i l = (l.weight ≡ total (fixed_weight l.side) l.i) × (l.weight ≤ 268435456 * l.i)
