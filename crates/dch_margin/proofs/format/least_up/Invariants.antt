use Rattle.std.proofs.Common.{◌≡◌, ◌-◌, length}
use Rattle.dch_collision.specs.Copies.{uplink_copies}
use Rattle.dch_collision.specs.Sequences.{IsLegal, frames_of}
use Rattle.dch_collision.proofs.Order.{power, value}
use Rattle.dch_margin.proofs.Visits.{IsLeastUpTo}
use Rattle.dch_margin.proofs.format.least_up.Given as goal

abbrev pub invariant-sequences : goal.invariant-sequences
invariant-sequences l = record {
  legal : IsLegal l.config.side l.i l.f l.sequence;
  least : IsLeastUpTo l.config.side (uplink_copies l.config) l.i l.f l.sequence l.best l.least;
  long : length l.best ≡ frames_of l.config.side l.i;
  kept : l.trellis ≡ l.fn.trellis;
}

abbrev pub decreases-sequences : goal.decreases-sequences
decreases-sequences l = power l.sequence - value l.sequence
