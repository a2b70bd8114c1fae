use Rattle.dch_layer2.proofs.Filling.{AreFilled}
use Rattle.dch_layer2.proofs.starting.fill.Given as goal

abbrev pub invariant-loop-k : goal.invariant-loop-k
invariant-loop-k l = AreFilled l.k l.from l.fn.bearer l.bearer l.fn.blocks l.blocks
