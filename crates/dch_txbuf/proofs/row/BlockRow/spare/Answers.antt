use Rattle.std.proofs.Common.{ℕ, List, ap, arith, length}
use Rattle.circular_buffer.specs.Buffer.{Buffer}
use Rattle.dch_txbuf.proofs.Rows.{length-texts}
use Rattle.dch_txbuf.proofs.row.BlockRow.spare.Goals as goal

pub returns : goal.returns
returns c = omega (arith, c.spare.ensures, c.self.invariant.count, length-texts c.self.inside.pool c.self.inside.blocks.items, ap (λ (b : Buffer (List ℕ)). b.capacity) c.self.view_is, ap (λ (b : Buffer (List ℕ)). length b.items) c.self.view_is)
