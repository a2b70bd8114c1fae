use Rattle.std.proofs.Common.{◌∙◌, ℕ, List, refl, sym, subst}
use Rattle.std.specs.Prelude.{nat_lt, if◌then◌else◌}
use Rattle.dch_collision.specs.Copies.{uplink_copies}
use Rattle.dch_collision.proofs.Visits.{next_falls}
use Rattle.dch_margin.specs.declared.distance.Least.{Least}
use Rattle.dch_margin.proofs.Visits.{IsLeastUpTo, up_to_first, up_to_last, up_to_next}
use Rattle.dch_margin.proofs.format.least_up.Goals as goal

pub sequences-init : goal.sequences-init
sequences-init c = record {
  legal = c.requires.first.legal;
  least = up_to_first c.args.config.now.side (uplink_copies c.args.config.now) c.args.i c.args.f c.args.sequence.now c.copy_from_slice.new.self c.least_under-least.result c.requires.good.side c.requires.first c.copy_from_slice.ensures.after c.least_under-least.ensures.least;
  long = c.copy_from_slice.ensures.len ∙ c.requires.best;
  kept = c.least_under-least.ensures.kept;
}

pub returns-then-not-next-clause-least : goal.returns-then-not-next-clause-least
returns-then-not-next-clause-least c =
    up_to_last c.args.config.now.side (uplink_copies c.args.config.now) c.args.i c.args.f c.sequences.sequence c.sequences.best c.sequences.least c.requires.good.side c.sequences.invariant.legal (c.if-not-next.ensures.last refl) c.sequences.invariant.least

pub sequences-smaller : goal.sequences-smaller
sequences-smaller c = next_falls c.args.config.now.side c.args.i c.args.f c.sequences.sequence c.next.new.sequence c.requires.good.side c.sequences.invariant.legal (c.if-not-next.ensures.found refl)

pub sequences-preserved : goal.sequences-preserved
sequences-preserved c =
    let less = nat_lt c.least_under-here.result.cells c.sequences.least.cells in
    record {
      legal = (c.if-not-next.ensures.found refl).legal;
      least = subst (λ (least : Least). IsLeastUpTo c.args.config.now.side (uplink_copies c.args.config.now) c.args.i c.args.f c.next.new.sequence c.keep_lesser-least.new.best least) (sym c.keep_lesser-least.ensures.least)
          (subst (λ (best : List ℕ). IsLeastUpTo c.args.config.now.side (uplink_copies c.args.config.now) c.args.i c.args.f c.next.new.sequence best (if less then c.least_under-here.result else c.sequences.least)) (sym c.keep_lesser-least.ensures.best)
          (up_to_next c.args.config.now.side (uplink_copies c.args.config.now) c.args.i c.args.f c.sequences.sequence c.next.new.sequence c.sequences.best c.sequences.least c.least_under-here.result c.requires.good.side c.sequences.invariant.legal (c.if-not-next.ensures.found refl) c.sequences.invariant.least c.least_under-here.ensures.least));
      long = c.keep_lesser-least.auto.best ∙ c.sequences.invariant.long;
      kept = c.least_under-here.ensures.kept ∙ c.sequences.invariant.kept;
    }
