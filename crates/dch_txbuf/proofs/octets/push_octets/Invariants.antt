use Rattle.std.proofs.Common.{◌≡◌, ◌++◌}
use Rattle.circular_buffer.specs.Buffer.{buffer}
use Rattle.dch_txbuf.specs.Chunks.{chunked}
use Rattle.dch_txbuf.proofs.octets.push_octets.Given as goal

abbrev pub invariant-loop-i : goal.invariant-loop-i
invariant-loop-i l = l.row ≡ buffer (l.fn.row.items ++ chunked l.i l.octets) l.fn.row.capacity
