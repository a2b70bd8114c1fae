use Rattle.std.proofs.Common.{◌≡◌, ◌<◌, ℕ, length, ap, sym, ◌∙◌, arith, below_more}
use Rattle.dch_types.specs.declared.channel.Trch.{Trch}
use Rattle.dch_types.specs.declared.channel.Side.{Side}
use Rattle.dch_types.specs.Parts.{channel_at}
use Rattle.dch_types.proofs.Sums.{total-zero, total-more, part_le}
use Rattle.dch_frame.specs.Downlinks.{fixed_weight, fixed_places}
use Rattle.dch_frame.specs.Places.{place_at}
use Rattle.dch_frame.proofs.SharesLemmas.{share_is}
use Rattle.dch_frame.proofs.fixed.fixed_table.Goals as goal

pub loop-i-init : goal.loop-i-init
loop-i-init c = record {
  held = sym (total-zero (fixed_weight c.args.side.now));
  places = λ j f before inside. absurd (omega arith);
}

pub share-requires-clause-part : goal.share-requires-clause-part
share-requires-clause-part c =
    omega (arith, c.fixed_weight-part.ensures.value, c.loop-i.invariant.held, c.whole_fixed-weight.ensures.value, part_le (fixed_weight c.args.side.now) c.loop-i.i (length c.args.side.now.channels) (omega arith))

pub overflow_add-held : goal.overflow_add-held
overflow_add-held c =
    omega (arith, c.fixed_weight-part.ensures.value, c.loop-i.invariant.held, c.whole_fixed-weight.ensures.value, part_le (fixed_weight c.args.side.now) c.loop-i.i (length c.args.side.now.channels) (omega arith))

pub loop-i-preserved : goal.loop-i-preserved
loop-i-preserved c =
    let side : Side = c.args.side.now in
    let i : ℕ = c.loop-i.i in
    let w : ℕ → ℕ = fixed_weight side in
    let share : c.share.result ≡ fixed_places side c.args.ndata i =
    c.share.ensures.value ∙ share_is w (length side.channels) c.args.ndata i c.loop-i.held c.fixed_weight-part.result c.whole_fixed-weight.result c.loop-i.invariant.held c.fixed_weight-part.ensures.value c.whole_fixed-weight.ensures.value in
    let formats : c.len-formats.result ≡ length (channel_at side i).formats = c.len-formats.ensures ∙ ap (λ (t : Trch). length t.formats) c.channel.ensures.value in
    record {
      held = omega (arith, total-more w i, c.loop-i.invariant.held, c.fixed_weight-part.ensures.value);
      places = λ j f before inside. below_more (λ j. (f : ℕ) → f < length (channel_at side j).formats → place_at c.fill_row.new.table j f ≡ fixed_places side c.args.ndata j) i
          (λ j less f inside. c.fill_row.ensures.same j f (λ same. omega arith) ∙ c.loop-i.invariant.places j f less inside)
          (λ f inside. c.fill_row.ensures.here f (omega (arith, formats)) ∙ share)
          j before f inside;
    }
