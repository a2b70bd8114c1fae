use Rattle.dch_layer2.specs.Changing.{AllGoOnTo}
use Rattle.dch_layer2.proofs.changing.change_bearers.Given as goal

abbrev pub invariant-loop-b : goal.invariant-loop-b
invariant-loop-b l = AllGoOnTo l.accepted.config l.out l.b l.fn.bearers l.bearers
