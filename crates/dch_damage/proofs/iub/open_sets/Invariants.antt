use Rattle.dch_damage.specs.Opened.{AreNewSets}
use Rattle.dch_damage.proofs.iub.open_sets.Given as goal

abbrev pub invariant-loop-set : goal.invariant-loop-set
invariant-loop-set l = AreNewSets l.first l.second l.dir l.set l.sets.items
