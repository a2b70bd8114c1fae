use Rattle.std.proofs.Common.{◌≡◌, ◌+◌, ◌-◌, ◌≤◌}
use Rattle.std.specs.Prelude.{min}
use Rattle.circular_buffer.specs.Buffer.{buffer}
use Rattle.dch_retx.specs.Flights.{AreRequests, IsWalk, acknowledged, changed_below, requested_in}
use Rattle.dch_retx.proofs.links.acknowledge_below.Given as goal

abbrev pub decreases-loop-i : goal.decreases-loop-i
decreases-loop-i l = l.to - l.i

abbrev pub invariant-loop-i : goal.invariant-loop-i
invariant-loop-i l = record {
  walk : IsWalk l.ring.items l.skips.items l.i l.before;
  after : l.ring ≡ buffer (changed_below acknowledged (min l.i l.to) l.fn.ring.items) l.fn.ring.capacity;
  requests : AreRequests l.requests l.ring.items;
  cleared : l.cleared + requested_in l.ring.items ≡ requested_in l.fn.ring.items;
  few : l.cleared ≤ l.i;
  room : l.skips.capacity ≡ l.fn.skips.capacity;
}
