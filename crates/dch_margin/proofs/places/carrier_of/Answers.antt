use Rattle.std.proofs.Common.{◌<◌, ◌∙◌, ℕ, length, get_or, arith, ap, sym, subst}
use Rattle.std.proofs.lemmas.List.{get_or_default}
use Rattle.dch_frame.specs.declared.uplink_plan.UplinkPlan.{UplinkPlan}
use Rattle.dch_frame.specs.Uplinks.{IsPlan}
use Rattle.dch_collision.specs.Directions.{IsPlanned, side_in}
use Rattle.dch_collision.specs.Plans.{AreAllPlans, no_plan}
use Rattle.dch_collision.specs.declared.direction.Direction.{Direction}
use Rattle.dch_margin.proofs.places.carrier_of.Goals as goal

pub uplink_carrier-requires-clause-plan : goal.uplink_carrier-requires-clause-plan
uplink_carrier-requires-clause-plan c =
    let uplink = c.in-Up.config.now in
    let plans = c.in-Up.plans.now in
    let are : AreAllPlans uplink plans = (subst IsPlanned c.in-Up.is c.requires.planned).1 in
    let there : c.args.c < length uplink.side.combinations = subst (λ (d : Direction). c.args.c < length (side_in d).combinations) c.in-Up.is c.requires.combination in
    let inside : c.from.result < length plans = omega (arith, c.from.ensures, are.all, there) in
    subst (λ (plan : UplinkPlan). IsPlan uplink c.args.c plan) (ap (λ (k : ℕ). get_or plans k no_plan) (sym c.from.ensures) ∙ get_or_default plans c.from.result no_plan _ inside) (are.each c.args.c there)
