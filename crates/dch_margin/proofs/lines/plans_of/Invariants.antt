use Rattle.dch_collision.specs.Plans.{ArePlans}
use Rattle.dch_margin.proofs.lines.plans_of.Given as goal

abbrev pub invariant-loop-c : goal.invariant-loop-c
invariant-loop-c l = ArePlans l.accepted.config.uplink l.c l.plans.items
