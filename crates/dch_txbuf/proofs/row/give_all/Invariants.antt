use Rattle.std.proofs.Common.{◌≡◌, ◌+◌, length}
use Rattle.dch_txbuf.specs.Rows.{IsRow}
use Rattle.dch_txbuf.proofs.row.give_all.Given as goal

abbrev pub invariant-loop : goal.invariant-loop
invariant-loop l = IsRow l.pool l.blocks.items l.blocks.capacity × (length l.blocks.items + l.counter ≡ l.end)
