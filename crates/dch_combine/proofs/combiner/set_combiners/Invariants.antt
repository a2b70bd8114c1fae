use Rattle.dch_combine.specs.Steps.{AreNewSets}
use Rattle.dch_combine.proofs.combiner.set_combiners.Given as goal

abbrev pub invariant-loop-set : goal.invariant-loop-set
invariant-loop-set l = AreNewSets l.accepted.config l.legs l.set l.sets.items
