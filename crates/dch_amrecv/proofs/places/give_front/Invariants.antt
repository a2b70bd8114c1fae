use Rattle.dch_amrecv.proofs.places.give_front.Given as goal
use Rattle.std.proofs.Common.{◌≡◌, drop}
use Rattle.circular_buffer.specs.Buffer.{buffer}
use Rattle.dch_amrecv.specs.Kept.{Left}

abbrev pub invariant-loop-done : goal.invariant-loop-done
invariant-loop-done l = (l.ring ≡ buffer (drop l.done l.fn.ring.items) l.fn.ring.capacity) × Left l.fn.pool l.pool (drop l.done l.fn.ring.items)
