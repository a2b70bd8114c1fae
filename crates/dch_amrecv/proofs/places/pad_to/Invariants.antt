use Rattle.dch_amrecv.proofs.places.pad_to.Given as goal
use Rattle.std.proofs.Common.{◌≡◌}
use Rattle.circular_buffer.specs.Buffer.{buffer}
use Rattle.dch_amrecv.specs.Places.{pad}

abbrev pub invariant-loop-i : goal.invariant-loop-i
invariant-loop-i l = (l.ring ≡ buffer (pad l.i l.fn.ring.items) l.fn.ring.capacity) × (l.pool ≡ l.fn.pool)
