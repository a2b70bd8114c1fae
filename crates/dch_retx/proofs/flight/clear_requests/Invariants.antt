use Rattle.std.proofs.Common.{◌≡◌, ◌+◌, ◌-◌, ◌<◌, ◌≤◌, true}
use Rattle.circular_buffer.specs.Buffer.{buffer}
use Rattle.dch_retx.specs.RequestSet.{is_in}
use Rattle.dch_retx.specs.Flights.{AreRequests, changed_below, request_cleared, requested_in}
use Rattle.dch_retx.proofs.flight.clear_requests.Given as goal

abbrev pub decreases-loop-i : goal.decreases-loop-i
decreases-loop-i l = l.to - l.i

abbrev pub invariant-loop-i : goal.invariant-loop-i
invariant-loop-i l = record {
  after : l.ring ≡ buffer (changed_below request_cleared l.i l.fn.ring.items) l.fn.ring.capacity;
  requests : AreRequests l.requests l.ring.items;
  here : l.i < l.to → is_in l.requests l.i ≡ true;
  cleared : l.cleared + requested_in l.ring.items ≡ requested_in l.fn.ring.items;
  few : l.cleared ≤ l.i;
  within : l.i ≤ l.to;
}
