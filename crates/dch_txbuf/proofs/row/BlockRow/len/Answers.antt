use Rattle.std.proofs.Common.{◌∙◌, ℕ, List, ap, length, sym}
use Rattle.circular_buffer.specs.Buffer.{Buffer}
use Rattle.dch_txbuf.proofs.Rows.{length-texts}
use Rattle.dch_txbuf.proofs.row.BlockRow.len.Goals as goal

pub returns : goal.returns
returns c = c.len.ensures.len ∙ (sym (length-texts c.self.inside.pool c.self.inside.blocks.items) ∙ ap (λ (b : Buffer (List ℕ)). length b.items) c.self.view_is)
