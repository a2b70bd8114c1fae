use Rattle.dch_check.proofs.Singles.{NoneSoFar}
use Rattle.dch_check.proofs.single.second_at.Given as goal

abbrev pub invariant-loop-i : goal.invariant-loop-i
invariant-loop-i l = NoneSoFar l.text l.i l.begins
