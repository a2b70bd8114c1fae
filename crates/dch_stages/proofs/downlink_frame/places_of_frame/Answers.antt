use Rattle.std.proofs.Common.{◌+◌, ap, arith, sym, ◌∙◌}
use Rattle.dch_types.proofs.Sums.{total-more, total-zero}
use Rattle.dch_dlphy.specs.Frames.{bits_before, bits_per_frame}
use Rattle.dch_stages.proofs.downlink_frame.places_of_frame.Goals as goal

pub loop-i-init : goal.loop-i-init
loop-i-init c = (sym (total-zero (bits_per_frame c.args.accepted.now c.args.combination)), omega arith)

pub loop-i-preserved : goal.loop-i-preserved
loop-i-preserved c =
    let planned = c.args.accepted.now in
    let comb = c.args.combination in
    let more = c.places_in_frame-places.ensures in (
      ap (λ places. places + c.places_in_frame-places.result) c.loop-i.invariant.0
          ∙ ap (λ places. bits_before planned comb c.loop-i.i + places) more.value
          ∙ sym (total-more (bits_per_frame planned comb) c.loop-i.i),
      omega (arith, c.loop-i.invariant.0, more.inside),
    )

pub overflow_add-places : goal.overflow_add-places
overflow_add-places c = omega (arith, c.loop-i.invariant.0, c.places_in_frame-places.ensures.inside, c.most_cells-most.ensures.value, c.most_cells-most.ensures.small)
