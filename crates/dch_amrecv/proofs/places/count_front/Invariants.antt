use Rattle.dch_amrecv.proofs.places.count_front.Given as goal
use Rattle.std.proofs.Common.{◌≡◌, ◌+◌, drop}
use Rattle.dch_amrecv.specs.Places.{front}

abbrev pub invariant-loop-i : goal.invariant-loop-i
invariant-loop-i l = front l.ring.items ≡ l.i + front (drop l.i l.ring.items)
