use Rattle.std.proofs.Common.{◌≡◌, ◌-◌}
use Rattle.dch_collision.specs.Copies.{uplink_copies}
use Rattle.dch_collision.proofs.Order.{power, value}
use Rattle.dch_collision.proofs.Visits.{IsReached}
use Rattle.dch_collision.proofs.uplink.first_in_format.Given as goal

abbrev pub invariant-sequences : goal.invariant-sequences
invariant-sequences l = record {
  reached : IsReached l.config.side (uplink_copies l.config) l.i l.f l.sequence;
  kept : l.room ≡ l.fn.room;
}

abbrev pub decreases-sequences : goal.decreases-sequences
decreases-sequences l = power l.sequence - value l.sequence
