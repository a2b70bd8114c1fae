use Rattle.std.proofs.Common.{◌≡◌, ◌≢◌, ◌+◌, ◌∙◌, ℕ, List, arith, ap, sym, subst, refl, below_more}
use Rattle.std.specs.Prelude.{if◌then◌else◌, ◌==◌, slice_index}
use Rattle.dch_types.specs.Parts.{channel_at, format_at}
use Rattle.dch_accept.specs.Blocks.{Held}
use Rattle.dch_accept.specs.HeldSets.{HeldSet, held_at}
use Rattle.dch_accept.specs.Padded.{format_octets}
use Rattle.dch_iub.specs.Shape.{blocks_place}
use Rattle.dch_iub.specs.Taken.{AreGood, IsTaken}
use Rattle.dch_iub.proofs.Kept.{kept_more}
use Rattle.dch_iub.proofs.Sums.{blocks_place-next, blocks_place-fits}
use Rattle.dch_iub.proofs.take.take_blocks.Goals as goal

pub take_channel-at-requires-clause-room : goal.take_channel-at-requires-clause-room
take_channel-at-requires-clause-room c =
    let side = c.args.side.now in
    let numbers : List ℕ = c.args.numbers.now in
    let i : ℕ = c.loop-i.i in
    let fits = blocks_place-fits side c.args.set numbers i (slice_index numbers i) refl (omega arith) in
    omega (arith, fits, c.loop-i.invariant.place, c.requires.room)

pub loop-i-preserved : goal.loop-i-preserved
loop-i-preserved c =
    let side = c.args.side.now in
    let set : ℕ = c.args.set in
    let frame : List ℕ = c.args.frame.now in
    let numbers : List ℕ = c.args.numbers.now in
    let i : ℕ = c.loop-i.i in
    let new : HeldSet = c.take_channel-at.new.out in
    let place : c.loop-i.at ≡ blocks_place side set numbers i = c.loop-i.invariant.place in
    let others : (j : ℕ) → j ≢ i → held_at new.blocks j ≡ held_at c.loop-i.out.blocks j = c.take_channel-at.ensures.others.others in record {
      place = c.take_channel-at.ensures.next
          ∙ ap (λ p. p + (if (channel_at side i).set == set then format_octets (format_at (channel_at side i) (slice_index numbers i)) else 0)) place
          ∙ sym (blocks_place-next side set numbers i (slice_index numbers i) refl);
      taken = below_more (λ j. (channel_at side j).set ≡ set → IsTaken (channel_at side j) (slice_index numbers j) frame (blocks_place side set numbers j) (held_at new.blocks j)) i
          (λ j early member. let other : j ≢ i = omega arith in
          subst (λ (h : Held). IsTaken (channel_at side j) (slice_index numbers j) frame (blocks_place side set numbers j) h) (sym (others j other)) (c.loop-i.invariant.taken j early member))
          (λ member. subst (λ (p : ℕ). IsTaken (channel_at side i) (slice_index numbers i) frame p (held_at new.blocks i)) place (c.take_channel-at.ensures.taken member));
      good = below_more (λ j. (channel_at side j).set ≡ set → AreGood (held_at new.blocks j)) i
          (λ j early member. let other : j ≢ i = omega arith in subst (λ (h : Held). AreGood h) (sym (others j other)) (c.loop-i.invariant.good j early member))
          c.take_channel-at.ensures.good;
      kept = kept_more i c.args.out.now c.loop-i.out new c.loop-i.invariant.kept c.take_channel-at.ensures.others;
    }
