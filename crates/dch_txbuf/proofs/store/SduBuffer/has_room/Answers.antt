use Rattle.std.proofs.Common.{◌+◌, ◌∙◌, ℕ, List, ap, ap₂, length, sym}
use Rattle.std.specs.Prelude.{nat_le}
use Rattle.circular_buffer.specs.Buffer.{Buffer}
use Rattle.dch_txbuf.specs.Chunks.{blocks_for}
use Rattle.dch_txbuf.specs.Sdus.{blocks_in}
use Rattle.dch_txbuf.proofs.Sdus.{blocks_same, le_spare}
use Rattle.dch_txbuf.proofs.store.SduBuffer.has_room.Goals as goal

pub returns : goal.returns
returns c =
    ap₂ (λ a b. nat_le a b) c.blocks_for.ensures c.spare.ensures
    ∙ (le_spare (blocks_for c.args.octets) (length c.self.inside.row.items) c.self.inside.row.capacity c.self.invariant.fits
    ∙ (ap (λ n. nat_le (n + blocks_for c.args.octets) c.self.inside.row.capacity) (c.self.invariant.filled ∙ sym (blocks_same c.self.inside.sdus.items c.self.inside.row.items c.self.invariant.whole c.self.invariant.filled))
    ∙ ap (λ (b : Buffer (List ℕ)). nat_le (blocks_in b.items + blocks_for c.args.octets) b.capacity) c.self.view_is))
