use Rattle.dch_rnc.specs.Opened.{AreNewRxSets}
use Rattle.dch_rnc.proofs.uplink.rx_sets.Given as goal

abbrev pub invariant-loop-set : goal.invariant-loop-set
invariant-loop-set l = AreNewRxSets l.accepted l.set l.rx_sets.items
