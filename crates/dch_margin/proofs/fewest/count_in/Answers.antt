use Rattle.std.proofs.Common.{◌<◌, ◌∙◌, ℕ, length, get_or, arith, ap, sym, subst}
use Rattle.std.proofs.lemmas.List.{get_or_default}
use Rattle.dch_frame.specs.declared.uplink_plan.UplinkPlan.{UplinkPlan}
use Rattle.dch_frame.specs.Uplinks.{IsPlan}
use Rattle.dch_collision.specs.Plans.{no_plan}
use Rattle.dch_margin.proofs.fewest.count_in.Goals as goal

pub count_frame-requires-clause-plan : goal.count_frame-requires-clause-plan
count_frame-requires-clause-plan c =
    let plans = c.args.plans.now in
    let inside : c.from.result < length plans = omega (arith, c.from.ensures, c.requires.plans.all, c.requires.there) in
    subst (λ (plan : UplinkPlan). IsPlan c.args.config.now c.args.c plan) (ap (λ (k : ℕ). get_or plans k no_plan) (sym c.from.ensures) ∙ get_or_default plans c.from.result no_plan _ inside) (c.requires.plans.each c.args.c c.requires.there)
