use Rattle.std.proofs.Common.{◌≡◌, ◌+◌, ◌*◌, drop, length, take}
use Rattle.std.specs.Prelude.{max, min}
use Rattle.dch_txbuf.specs.Chunks.{joined}
use Rattle.dch_txbuf.proofs.octets.copy_octets.Given as goal

abbrev pub invariant-loop-i : goal.invariant-loop-i
invariant-loop-i l =
    (l.from + l.done ≡ min (l.from + length l.out) (max l.from (64 * l.i)))
    × (length l.out ≡ length l.fn.out)
    × (take l.done l.out ≡ take l.done (drop l.from (joined (drop l.block l.row.items))))
