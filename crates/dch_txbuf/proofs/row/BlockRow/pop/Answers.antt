use Rattle.std.proofs.Common.{◌∙◌, ℕ, List, ap, drop, subst, sym}
use Rattle.circular_buffer.specs.Buffer.{Buffer, buffer}
use Rattle.dch_txbuf.specs.Rows.{IsRow, texts_of}
use Rattle.dch_txbuf.proofs.Rows.{front, popped, texts_behind}
use Rattle.dch_txbuf.proofs.row.BlockRow.pop.Goals as goal

pub invariant_of-self : goal.invariant_of-self
invariant_of-self c =
    let e = front c.self.inside.blocks.items c.in-Some.block c.in-Some.ensures.value in
    let p = popped c.self.inside.pool c.give.new.self c.in-Some.block (drop 1 c.self.inside.blocks.items) c.self.inside.blocks.capacity (subst (λ ns. IsRow c.self.inside.pool ns c.self.inside.blocks.capacity) e c.self.invariant) c.give.ensures in
    subst (λ (b : Buffer ℕ). IsRow c.give.new.self b.items b.capacity) (sym c.pop_front.ensures.items) p.row

pub returns-in-Some : goal.returns-in-Some
returns-in-Some c =
    let e = front c.self.inside.blocks.items c.in-Some.block c.in-Some.ensures.value in
    let p = popped c.self.inside.pool c.give.new.self c.in-Some.block (drop 1 c.self.inside.blocks.items) c.self.inside.blocks.capacity (subst (λ ns. IsRow c.self.inside.pool ns c.self.inside.blocks.capacity) e c.self.invariant) c.give.ensures in
    ap (λ (b : Buffer ℕ). buffer (texts_of c.give.new.self b.items) b.capacity) c.pop_front.ensures.items
    ∙ (ap (λ ts. buffer ts c.self.inside.blocks.capacity) (p.texts ∙ texts_behind c.self.inside.pool c.self.inside.blocks.items)
    ∙ ap (λ (b : Buffer (List ℕ)). buffer (drop 1 b.items) b.capacity) c.self.view_is)
