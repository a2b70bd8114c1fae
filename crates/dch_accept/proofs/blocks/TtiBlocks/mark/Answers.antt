use Rattle.std.proofs.Common.{◌*◌, ap, ◌∙◌, take, List, Bool}
use Rattle.std.specs.Prelude.{slice_set}
use Rattle.dch_accept.specs.Blocks.{Held}
use Rattle.dch_accept.proofs.Overwritten.{take-set}
use Rattle.dch_accept.proofs.blocks.TtiBlocks.mark.Goals as goal

pub returns : goal.returns
returns c =
    let inside = c.self.inside in
    ap (λ (good : List Bool). record { format = inside.format; size = inside.size; bits = take (inside.count * inside.size) inside.bits.items; good = good; room = inside.room })
    (take-set inside.count inside.marks.items c.args.i c.args.good)
    ∙ ap (λ (held : Held). record held { good = slice_set held.good c.args.i c.args.good }) c.self.view_is
