use Rattle.std.proofs.Common.{◌≡◌, ◌+◌, ℕ, arith, subst, sym, ◌∙◌}
use Rattle.dch_trellis.specs.Distance.{copies_at}
use Rattle.dch_margin.specs.Differ.{IsLeastBelow}
use Rattle.dch_margin.specs.declared.distance.Least.{Least}
use Rattle.dch_margin.proofs.Differ.{first_place, more_places}
use Rattle.dch_margin.proofs.distance.least_in_tti.Goals as goal

pub loop-r-init : goal.loop-r-init
loop-r-init c = record {
  least = first_place c.args.coding c.args.plan.now (copies_at c.args.votes.now) c.least_in_place.result c.least_in_place.ensures.least;
  kept = c.least_in_place.ensures.kept;
}

pub loop-r-preserved : goal.loop-r-preserved
loop-r-preserved c = record {
  least = subst (λ (least : Least). IsLeastBelow c.args.coding c.args.plan.now (copies_at c.args.votes.now) (c.loop-r.r + 1) least) (sym c.or-least.ensures)
      (more_places c.args.coding c.args.plan.now (copies_at c.args.votes.now) c.loop-r.r c.loop-r.least c.least_in_place-in-loop-r.result c.loop-r.invariant.least c.least_in_place-in-loop-r.ensures.least);
  kept = c.least_in_place-in-loop-r.ensures.kept ∙ c.loop-r.invariant.kept;
}

pub returns-clause-least : goal.returns-clause-least
returns-clause-least c =
    let end : c.loop-r.r ≡ c.args.plan.now.blocks = omega arith in
    subst (λ (r : ℕ). IsLeastBelow c.args.coding c.args.plan.now (copies_at c.args.votes.now) r c.loop-r.least) end c.loop-r.invariant.least
