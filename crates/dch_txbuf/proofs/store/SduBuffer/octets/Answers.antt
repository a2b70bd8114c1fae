use Rattle.std.proofs.Common.{◌<◌, ◌∙◌, ℕ, List, [], ap, arith, get_or, length, sym}
use Rattle.circular_buffer.specs.Buffer.{Buffer}
use Rattle.dch_txbuf.specs.declared.sdu.Sdu.{Sdu}
use Rattle.dch_txbuf.proofs.Sdus.{length-sdus, octets_at}
use Rattle.dch_txbuf.proofs.store.SduBuffer.octets.Goals as goal

pub sdu_at-requires : goal.sdu_at-requires
sdu_at-requires c = omega (arith, c.requires, length-sdus c.self.inside.sdus.items c.self.inside.row.items, ap (λ (b : Buffer (List ℕ)). length b.items) c.self.view_is)

pub returns : goal.returns
returns c =
    let inside : c.args.i < length c.self.inside.sdus.items = omega (arith, c.requires, length-sdus c.self.inside.sdus.items c.self.inside.row.items, ap (λ (b : Buffer (List ℕ)). length b.items) c.self.view_is) in
    ap (λ (s : Sdu). s.octets) c.sdu_at.ensures
    ∙ (sym (octets_at c.self.inside.sdus.items c.self.inside.row.items c.args.i inside c.self.invariant.whole c.self.invariant.filled)
    ∙ ap (λ (b : Buffer (List ℕ)). length (get_or b.items c.args.i [])) c.self.view_is)
