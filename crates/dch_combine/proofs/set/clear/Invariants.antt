use Rattle.dch_combine.specs.Steps.{AreEmptied}
use Rattle.dch_combine.proofs.set.clear.Given as goal

abbrev pub invariant-loop-k : goal.invariant-loop-k
invariant-loop-k l = AreEmptied l.k l.fn.legs l.legs
