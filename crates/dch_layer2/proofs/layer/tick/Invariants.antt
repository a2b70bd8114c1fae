use Rattle.dch_layer2.specs.Standing.{AreTickedTo}
use Rattle.dch_layer2.proofs.layer.tick.Given as goal

abbrev pub invariant-loop-b : goal.invariant-loop-b
invariant-loop-b l = AreTickedTo l.b l.fn.bearers l.bearers
