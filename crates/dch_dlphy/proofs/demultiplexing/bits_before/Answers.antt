use Rattle.std.proofs.Common.{◌+◌, ap, sym, ◌∙◌}
use Rattle.dch_types.proofs.Sums.{total-more, total-zero}
use Rattle.dch_dlphy.specs.Frames.{bits_before, bits_per_frame}
use Rattle.dch_dlphy.proofs.demultiplexing.bits_before.Goals as goal

pub loop-before-init : goal.loop-before-init
loop-before-init c = sym (total-zero (bits_per_frame c.args.accepted.now c.args.combination))

pub loop-before-preserved : goal.loop-before-preserved
loop-before-preserved c =
    let planned = c.args.accepted.now in
    let comb = c.args.combination in
    ap (λ places. places + c.bits_in_frame-places.result) c.loop-before.invariant
    ∙ ap (λ places. bits_before planned comb c.loop-before.before + places) c.bits_in_frame-places.ensures.value
    ∙ sym (total-more (bits_per_frame planned comb) c.loop-before.before)
