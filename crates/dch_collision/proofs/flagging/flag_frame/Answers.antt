use Rattle.std.proofs.Common.{◌<◌, ℕ, length, get_or, arith, ap, sym, ◌∙◌, subst}
use Rattle.std.proofs.lemmas.List.{get_or_default}
use Rattle.dch_frame.specs.declared.uplink_plan.UplinkPlan.{UplinkPlan}
use Rattle.dch_frame.specs.Uplinks.{IsPlan}
use Rattle.dch_collision.specs.Plans.{no_plan}
use Rattle.dch_collision.proofs.flagging.flag_frame.Goals as goal

pub frame-pattern-requires-clause-plan : goal.frame-pattern-requires-clause-plan
frame-pattern-requires-clause-plan c =
    let P : UplinkPlan → Type 0 = λ plan. IsPlan c.args.config.now c.args.c plan in
    let inside : c.from.result < length c.args.plans.now = omega (arith, c.from.ensures, c.requires.plans.all, c.requires.combination) in
    subst P (ap (λ (k : ℕ). get_or c.args.plans.now k no_plan) (sym c.from.ensures) ∙ get_or_default c.args.plans.now c.from.result no_plan _ inside) (c.requires.plans.each c.args.c c.requires.combination)
