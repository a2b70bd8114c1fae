use Rattle.std.proofs.Common.{◌≡◌, ◌≤◌, ◌*◌, ◌^◌}
use Rattle.dch_types.specs.Sums.{total}
use Rattle.dch_collision.specs.Counted.{uplink_count, in_channel}
use Rattle.dch_collision.proofs.counting.count_uplink.Given as goal

abbrev pub invariant-loop-i : goal.invariant-loop-i
invariant-loop-i l = (l.sum ≡ total (in_channel l.config.side (uplink_count l.config)) l.i) × (l.sum ≤ l.i * 2 ^ 80)
