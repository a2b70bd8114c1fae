use Rattle.std.proofs.Common.{◌∙◌, Some, ap, sym, slice_get}
use Rattle.dch_am.specs.Contents.{body_in}
use Rattle.dch_amrecv.specs.Places.{is_kept}
use Rattle.dch_amrecv.specs.Stored.{content_of}
use Rattle.dch_amrecv.proofs.Blocks.{first_stored}
use Rattle.dch_amrecv.proofs.Seeing.{get-seen, is_kept-seen}
use Rattle.dch_amrecv.proofs.window.RxWindow.first.Goals as goal

pub first_of-block-requires : goal.first_of-block-requires
first_of-block-requires c = sym (is_kept-seen c.self.inside.pool c.self.inside.ring.items 0) ∙ (ap (λ w. is_kept w.ring.items 0) c.self.view_is ∙ c.requires)

pub bytes-requires : goal.bytes-requires
bytes-requires c = (first_stored c.self.inside.pool c.self.inside.ring.items c.first_of-block.result.now c.self.invariant.blocks c.first_of-block.ensures).0

pub stored-requires : goal.stored-requires
stored-requires c = rw c.bytes.ensures (first_stored c.self.inside.pool c.self.inside.ring.items c.first_of-block.result.now c.self.invariant.blocks c.first_of-block.ensures).1

pub returns-clause-body : goal.returns-clause-body
returns-clause-body c =
    ap (λ w. slice_get w.ring.items 0) (sym c.self.view_is)
    ∙ (get-seen c.self.inside.pool 0 c.first_of-block.result.now c.self.inside.ring.items c.first_of-block.ensures
    ∙ ap (λ t. Some (Some (body_in t))) (sym (c.stored.ensures.content ∙ ap content_of c.bytes.ensures)))
