use Rattle.std.proofs.Common.{◌<◌, ◌∙◌, ℕ, List, length, ap, sym, subst}
use Rattle.dch_types.specs.declared.channel.Side.{Side}
use Rattle.dch_iub.specs.Shape.{formats_of, frame_octets}
use Rattle.dch_iub.proofs.Sums.{frame_octets-same, formats_of-at}
use Rattle.dch_iub.proofs.shape.frame_len.Goals as goal

pub returns : goal.returns
returns c =
    let config = c.args.accepted.now.config in
    let numbers : List ℕ = c.numbers_of-numbers.result in
    let held = c.args.blocks.now in
    c.frame_octets.ensures ∙ ap (λ set. frame_octets config c.args.dir set numbers) c.set.ensures
    ∙ frame_octets-same config c.args.dir held.set numbers (formats_of held)
    (λ i inside member. c.numbers_of-numbers.ensures i (subst (λ (side : Side). i < length side.channels) (sym c.side.ensures.value) inside)
    ∙ sym (formats_of-at held i (subst (λ n. i < n) (sym c.requires.rooms.all) inside)))
