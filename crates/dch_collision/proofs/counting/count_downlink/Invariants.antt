use Rattle.std.proofs.Common.{◌≡◌, ◌≤◌, ◌*◌, ◌^◌}
use Rattle.dch_types.specs.Sums.{total}
use Rattle.dch_collision.specs.Counted.{downlink_count, in_channel}
use Rattle.dch_collision.proofs.counting.count_downlink.Given as goal

abbrev pub invariant-loop-i : goal.invariant-loop-i
invariant-loop-i l = (l.sum ≡ total (in_channel l.config.side (downlink_count l.config)) l.i) × (l.sum ≤ l.i * 2 ^ 80)
