use Rattle.dch_retx.proofs.links.acked_from.Given as goal
use Rattle.std.proofs.Common.{◌≡◌, ◌+◌, ◌-◌, drop}
use Rattle.dch_retx.specs.Flights.{front_acked}

abbrev pub invariant-loop-i : goal.invariant-loop-i
invariant-loop-i l = front_acked (drop l.from l.ring.items) ≡ (l.i - l.from) + front_acked (drop l.i l.ring.items)
