use Rattle.dch_damage.specs.Opened.{AreClearedTo}
use Rattle.dch_damage.proofs.iub.clear_sets.Given as goal

abbrev pub invariant-loop-set : goal.invariant-loop-set
invariant-loop-set l = AreClearedTo l.set l.fn.sets l.sets
