use Rattle.std.proofs.Common.{◌≡◌, ◌≤◌, ◌*◌}
use Rattle.dch_types.specs.Sums.{total}
use Rattle.dch_frame.specs.Downlinks.{combined}
use Rattle.dch_frame.proofs.flexible.whole_combined.Given as goal

abbrev pub invariant-loop-i : goal.invariant-loop-i
invariant-loop-i l = (l.weight ≡ total (combined l.side l.c) l.i) × (l.weight ≤ 268435456 * l.i)
