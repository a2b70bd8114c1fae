use Rattle.dch_layer2.specs.Opening.{AreOpened}
use Rattle.dch_layer2.proofs.opening.open_bearers.Given as goal

abbrev pub invariant-loop-b : goal.invariant-loop-b
invariant-loop-b l = AreOpened l.accepted.config l.out l.into l.b l.bearers.items
