use Rattle.std.proofs.Common.{arith, ap, refl, sym}
use Rattle.dch_coding.specs.declared.cut.Plan.{Plan}
use Rattle.dch_collision.specs.Copies.{downlink_copies}
use Rattle.dch_collision.proofs.Sizes.{shape_fits}
use Rattle.dch_collision.proofs.Unpunctured.{downlink_whole}
use Rattle.dch_collision.proofs.Under.{hit_in_format}
use Rattle.dch_collision.proofs.Visits.{reach_first}
use Rattle.dch_collision.proofs.downlink.first_in_format.Goals as goal

pub returns-then-not-downlink_punctures-clause-none : goal.returns-then-not-downlink_punctures-clause-none
returns-then-not-downlink_punctures-clause-none c same = downlink_whole c.args.config.now c.args.i c.args.f c.requires.good c.requires.channel (sym c.if-not-downlink_punctures.ensures)

pub returns-then-not-first-clause-none : goal.returns-then-not-first-clause-none
returns-then-not-first-clause-none c same sequence legal = absurd (c.if-not-first.ensures.none refl sequence legal)

pub format_collision-requires : goal.format_collision-requires
format_collision-requires c = omega (arith, (c.in-Some.ensures.some c.first.new.out).there, c.shape_of-shape.ensures.few_blocks, ap (λ (p : Plan). p.blocks) c.shape_of-shape.ensures.plan)

pub returns-in-Some-clause-some : goal.returns-in-Some-clause-some
returns-in-Some-clause-some c =
    let sent = downlink_copies c.args.config.now in
    hit_in_format c.args.config.now.side sent c.args.i c.args.f c.in-Some.r c.shape_of-shape.result.plan.size c.first.new.out c.removed.new.block c.format_collision.result c.format_collision.ensures
    (reach_first c.args.config.now.side sent c.args.i c.args.f c.first.new.out (c.if-not-first.ensures.found refl))
    (omega (arith, c.shape_of-shape.ensures.within, (shape_fits c.args.config.now.side c.args.i c.args.f c.shape_of-shape.result c.args.room.now c.shape_of-shape.ensures c.requires.fits).bits, c.removed.auto.block, c.requires.block)) (c.in-Some.ensures.some c.first.new.out)

pub returns-clause-none : goal.returns-clause-none
returns-clause-none c same sequence legal = c.in_default.ensures.none refl sequence
