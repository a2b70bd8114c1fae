use Rattle.std.proofs.Common.{◌≡◌, ◌≢◌, ◌+◌, ◌<◌, ◌∙◌, ℕ, List, length, arith, sym, subst, refl, below_more}
use Rattle.std.specs.Prelude.{slice_index}
use Rattle.dch_types.specs.Parts.{channel_at}
use Rattle.dch_accept.specs.Blocks.{Held}
use Rattle.dch_accept.specs.HeldSets.{HeldSet, held_at}
use Rattle.dch_iub.specs.Forms.{AreMarked}
use Rattle.dch_iub.specs.Shape.{marks_before}
use Rattle.dch_iub.proofs.Kept.{kept_more, marked_more}
use Rattle.dch_iub.proofs.Sums.{marks_before-next, marks_before-fits}
use Rattle.dch_iub.proofs.take.take_marks.Goals as goal

pub mark_channel-bit-requires-clause-room : goal.mark_channel-bit-requires-clause-room
mark_channel-bit-requires-clause-room c =
    let side = c.args.side.now in
    let numbers : List ℕ = c.args.numbers.now in
    let i : ℕ = c.loop-i.i in
    let fits = marks_before-fits side c.args.set numbers i (slice_index numbers i) refl (omega arith) in
    omega (arith, fits, c.loop-i.invariant.place, c.requires.room)

pub mark_channel-bit-requires-clause-small : goal.mark_channel-bit-requires-clause-small
mark_channel-bit-requires-clause-small c =
    let side = c.args.side.now in
    let numbers : List ℕ = c.args.numbers.now in
    let i : ℕ = c.loop-i.i in
    let fits = marks_before-fits side c.args.set numbers i (slice_index numbers i) refl (omega arith) in
    omega (arith, fits, c.loop-i.invariant.place, c.requires.small)

pub mark_channel-bit-requires-clause-count : goal.mark_channel-bit-requires-clause-count
mark_channel-bit-requires-clause-count c member =
    let i : ℕ = c.loop-i.i in
    let inside : i < length c.args.side.now.channels = omega arith in
    (c.loop-i.invariant.same i).count ∙ c.requires.taken i inside member

pub loop-i-preserved : goal.loop-i-preserved
loop-i-preserved c =
    let side = c.args.side.now in
    let set : ℕ = c.args.set in
    let frame : List ℕ = c.args.frame.now in
    let numbers : List ℕ = c.args.numbers.now in
    let i : ℕ = c.loop-i.i in
    let new : HeldSet = c.mark_channel-bit.new.out in
    let place : c.loop-i.bit ≡ c.args.first + marks_before side set numbers i = c.loop-i.invariant.place in
    let next = marks_before-next side set numbers i (slice_index numbers i) refl in
    let others : (j : ℕ) → j ≢ i → held_at new.blocks j ≡ held_at c.loop-i.out.blocks j = c.mark_channel-bit.ensures.others.others in record {
      place = omega (arith, c.mark_channel-bit.ensures.next, place, next);
      marked = below_more (λ j. (channel_at side j).set ≡ set → AreMarked frame (c.args.first + marks_before side set numbers j) (held_at new.blocks j)) i
          (λ j early member. let other : j ≢ i = omega arith in
          subst (λ (h : Held). AreMarked frame (c.args.first + marks_before side set numbers j) h) (sym (others j other)) (c.loop-i.invariant.marked j early member))
          (λ member. subst (λ (p : ℕ). AreMarked frame p (held_at new.blocks i)) place (c.mark_channel-bit.ensures.marked member));
      same = marked_more i c.args.out.now c.loop-i.out new c.loop-i.invariant.same c.mark_channel-bit.ensures.same others;
      kept = kept_more i c.args.out.now c.loop-i.out new c.loop-i.invariant.kept c.mark_channel-bit.ensures.others;
    }
