use Rattle.dch_combine.specs.Steps.{AreNewLegs}
use Rattle.dch_combine.proofs.set.leg_buffers.Given as goal

abbrev pub invariant-loop-leg : goal.invariant-loop-leg
invariant-loop-leg l = AreNewLegs l.accepted.config l.set l._leg l.buffers.items
