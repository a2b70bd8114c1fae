use Rattle.std.proofs.Common.{◌≡◌, drop}
use Rattle.circular_buffer.specs.Buffer.{buffer}
use Rattle.dch_txbuf.proofs.octets.pop_blocks.Given as goal

abbrev pub invariant-loop : goal.invariant-loop
invariant-loop l = l.row ≡ buffer (drop l.counter l.fn.row.items) l.fn.row.capacity
