use Rattle.std.proofs.Common.{◌≡◌, drop}
use Rattle.circular_buffer.specs.Buffer.{buffer}
use Rattle.dch_txbuf.proofs.store.SduBuffer.release.Given as goal

abbrev pub invariant-loop : goal.invariant-loop
invariant-loop l = l.self ≡ buffer (drop l.counter l.fn.self.items) l.fn.self.capacity
