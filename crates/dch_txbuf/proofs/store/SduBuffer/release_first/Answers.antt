use Rattle.std.proofs.Common.{◌+◌, ◌∙◌, ap, drop, subst, sym}
use Rattle.std.specs.Prelude.{◌%◌}
use Rattle.circular_buffer.specs.Buffer.{buffer}
use Rattle.dch_txbuf.specs.Chunks.{blocks_for}
use Rattle.dch_txbuf.specs.Sdus.{IsStored}
use Rattle.dch_txbuf.proofs.Sdus.{front_of, stored_pop}
use Rattle.dch_txbuf.proofs.store.SduBuffer.release_first.Goals as goal

pub invariant_of-self : goal.invariant_of-self
invariant_of-self c =
    let e = front_of c.self.inside.sdus.items c.in-Some.sdu c.in-Some.ensures.value in
    subst (λ n. IsStored c.pop_blocks.new.row c.pop_front.new.self ((c.self.inside.freed + n) % 65536)) (sym c.blocks_for-blocks.ensures)
    (subst (λ r. IsStored r c.pop_front.new.self ((c.self.inside.freed + blocks_for c.in-Some.sdu.octets) % 65536)) (sym (c.pop_blocks.ensures ∙ ap (λ n. buffer (drop n c.self.inside.row.items) c.self.inside.row.capacity) c.blocks_for-blocks.ensures))
    (subst (λ b. IsStored (buffer (drop (blocks_for c.in-Some.sdu.octets) c.self.inside.row.items) c.self.inside.row.capacity) b ((c.self.inside.freed + blocks_for c.in-Some.sdu.octets) % 65536)) (sym c.pop_front.ensures.items)
    (stored_pop c.self.inside.row c.in-Some.sdu (drop 1 c.self.inside.sdus.items) c.self.inside.sdus.capacity c.self.inside.freed
    (subst (λ ss. IsStored c.self.inside.row (buffer ss c.self.inside.sdus.capacity) c.self.inside.freed) e c.self.invariant))))
