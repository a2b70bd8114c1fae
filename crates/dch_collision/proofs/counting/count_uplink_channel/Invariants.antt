use Rattle.std.proofs.Common.{◌≡◌, ◌≤◌, ◌*◌, ◌^◌}
use Rattle.dch_types.specs.Sums.{total}
use Rattle.dch_collision.specs.Counted.{uplink_count}
use Rattle.dch_collision.proofs.counting.count_uplink_channel.Given as goal

abbrev pub invariant-loop-f : goal.invariant-loop-f
invariant-loop-f l = (l.sum ≡ total (uplink_count l.config l.i) l.f) × (l.sum ≤ l.f * 2 ^ 75)
