use Rattle.std.proofs.Common.{◌≡◌, ◌≤◌, ◌*◌, length}
use Rattle.dch_trellis.specs.Nearest.{all_copies}
use Rattle.dch_bench.proofs.nearest.received.Given as goal

abbrev pub invariant-loop-bit : goal.invariant-loop-bit
invariant-loop-bit l = (length l.votes.items ≡ l.bit-index) × (all_copies l.votes.items ≤ l.bit-index * 40)
