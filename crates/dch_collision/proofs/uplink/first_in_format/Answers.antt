use Rattle.std.proofs.Common.{◌∙◌, arith, refl, subst, sym}
use Rattle.dch_coding.specs.declared.room.CodingRoom.{CodingRoom}
use Rattle.dch_collision.specs.Copies.{uplink_copies}
use Rattle.dch_collision.specs.Shapes.{Fits}
use Rattle.dch_collision.proofs.Sizes.{shape_fits}
use Rattle.dch_collision.proofs.Unpunctured.{uplink_whole}
use Rattle.dch_collision.proofs.Under.{hit_in_format}
use Rattle.dch_collision.proofs.Visits.{reach_first, reach_next, reach_all, next_falls}
use Rattle.dch_collision.proofs.uplink.first_in_format.Goals as goal

pub returns-then-not-uplink_punctures-clause-none : goal.returns-then-not-uplink_punctures-clause-none
returns-then-not-uplink_punctures-clause-none c same = uplink_whole c.args.config.now c.args.i c.args.f c.requires.good c.requires.channel (sym c.if-not-uplink_punctures.ensures)

pub returns-then-not-first-clause-none : goal.returns-then-not-first-clause-none
returns-then-not-first-clause-none c same sequence legal = absurd (c.if-not-first.ensures.none refl sequence legal)

pub sequences-init : goal.sequences-init
sequences-init c = record {
  reached = reach_first c.args.config.now.side (uplink_copies c.args.config.now) c.args.i c.args.f c.first.new.out (c.if-not-first.ensures.found refl);
  kept = refl;
}

pub first_under_sequence-requires-clause-fits : goal.first_under_sequence-requires-clause-fits
first_under_sequence-requires-clause-fits c =
    subst (λ (room : CodingRoom). Fits room c.shape_of-shape.result) (sym c.sequences.invariant.kept)
    (shape_fits c.args.config.now.side c.args.i c.args.f c.shape_of-shape.result c.args.room.now c.shape_of-shape.ensures c.requires.fits)

pub first_under_sequence-requires-clause-block : goal.first_under_sequence-requires-clause-block
first_under_sequence-requires-clause-block c =
    let fits = shape_fits c.args.config.now.side c.args.i c.args.f c.shape_of-shape.result c.args.room.now c.shape_of-shape.ensures c.requires.fits in
    omega (arith, fits.bits, c.sequences.auto.block, c.requires.block)

pub returns-in-Some-clause-some : goal.returns-in-Some-clause-some
returns-in-Some-clause-some c =
    hit_in_format c.args.config.now.side (uplink_copies c.args.config.now) c.args.i c.args.f c.in-Some.r c.shape_of-shape.result.plan.size c.sequences.sequence c.first_under_sequence.new.block c.format_collision.result c.format_collision.ensures c.sequences.invariant.reached
    (omega (arith, c.shape_of-shape.ensures.within, (shape_fits c.args.config.now.side c.args.i c.args.f c.shape_of-shape.result c.args.room.now c.shape_of-shape.ensures c.requires.fits).bits, c.first_under_sequence.auto.block, c.sequences.auto.block, c.requires.block)) c.in-Some.ensures.some

pub returns-then-not-next-clause-none : goal.returns-then-not-next-clause-none
returns-then-not-next-clause-none c same =
    reach_all c.args.config.now.side (uplink_copies c.args.config.now) c.args.i c.args.f c.sequences.sequence c.sequences.invariant.reached (c.in_default.ensures.none refl) (c.if-not-next.ensures.last refl)

pub sequences-smaller : goal.sequences-smaller
sequences-smaller c = next_falls c.args.config.now.side c.args.i c.args.f c.sequences.sequence c.next.new.sequence c.requires.good.side c.sequences.invariant.reached.legal (c.if-not-next.ensures.found refl)

pub sequences-preserved : goal.sequences-preserved
sequences-preserved c = record {
  reached = reach_next c.args.config.now.side (uplink_copies c.args.config.now) c.args.i c.args.f c.sequences.sequence c.next.new.sequence c.sequences.invariant.reached (c.in_default.ensures.none refl) (c.if-not-next.ensures.found refl);
  kept = c.first_under_sequence.ensures.kept ∙ c.sequences.invariant.kept;
}
