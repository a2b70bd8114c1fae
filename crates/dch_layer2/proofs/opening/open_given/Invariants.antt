use Rattle.dch_layer2.specs.Opening.{AreIdle}
use Rattle.dch_layer2.proofs.opening.open_given.Given as goal

abbrev pub invariant-loop-i : goal.invariant-loop-i
invariant-loop-i l = AreIdle l.accepted.config l.out l.i l.given.items
