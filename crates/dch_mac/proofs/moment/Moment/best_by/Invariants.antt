use Rattle.dch_mac.specs.Choices.{IsBestOf}
use Rattle.dch_mac.proofs.moment.Moment.best_by.Given as goal

abbrev pub invariant-loop-c : goal.invariant-loop-c
invariant-loop-c l = IsBestOf l.self l.c l.best
