use Rattle.dch_accept.specs.Answers.{HavePlans}
use Rattle.dch_accept.proofs.accepted.plans.Given as goal

abbrev pub invariant-loop-c : goal.invariant-loop-c
invariant-loop-c l = HavePlans l.config l.c l.plans
