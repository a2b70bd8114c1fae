use Rattle.std.proofs.Common.{◌∙◌, ℕ, List, [], ap, arith, get_or, length, subst, sym}
use Rattle.circular_buffer.specs.Buffer.{Buffer}
use Rattle.dch_pool.specs.Blocks.{IsLent, octets_of}
use Rattle.dch_txbuf.proofs.Rows.{got, got_none, length-texts, lent_at, text_at}
use Rattle.dch_txbuf.proofs.row.BlockRow.at.Goals as goal

pub bytes-requires : goal.bytes-requires
bytes-requires c =
    let g = got c.self.inside.blocks.items c.args.i c.in-Some.block.now c.in-Some.ensures in
    subst (IsLent c.self.inside.pool) g.1 (lent_at c.self.inside.pool c.self.inside.blocks.items c.args.i g.0 c.self.invariant.lent)

pub returns-in-Some : goal.returns-in-Some
returns-in-Some c =
    let g = got c.self.inside.blocks.items c.args.i c.in-Some.block.now c.in-Some.ensures in
    c.bytes.ensures ∙ (ap (octets_of c.self.inside.pool) (sym g.1) ∙ (sym (text_at c.self.inside.pool c.self.inside.blocks.items c.args.i g.0) ∙ ap (λ (b : Buffer (List ℕ)). get_or b.items c.args.i []) c.self.view_is))

pub returns-in-None : goal.returns-in-None
returns-in-None c = absurd (omega (arith, c.requires, got_none c.self.inside.blocks.items c.args.i c.in-None.ensures, length-texts c.self.inside.pool c.self.inside.blocks.items, ap (λ (b : Buffer (List ℕ)). length b.items) c.self.view_is))
