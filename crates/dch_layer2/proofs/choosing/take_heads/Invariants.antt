use Rattle.dch_layer2.specs.Sharing.{AreHeads}
use Rattle.dch_layer2.proofs.choosing.take_heads.Given as goal

abbrev pub invariant-loop-b : goal.invariant-loop-b
invariant-loop-b l = AreHeads l.b l.bearers l.heads
