use Rattle.std.proofs.Common.{◌+◌, subst, sym}
use Rattle.dch_accept.specs.Answers.{HavePlans}
use Rattle.dch_accept.proofs.MorePlans.{plans_more}
use Rattle.dch_accept.proofs.accepted.plans.Goals as goal

pub loop-c-preserved : goal.loop-c-preserved
loop-c-preserved c =
    subst (HavePlans c.args.config.now (c.loop-c.c + 1)) (sym c.in_ok-push-in-Ok.ensures.ok)
    (plans_more c.args.config.now c.loop-c.c c.loop-c.plans c.in-Ok.plan c.loop-c.invariant (λ none. let wrong = c.in-Ok.ensures.refused.1 none in cc) c.in-Ok.ensures.planned)
