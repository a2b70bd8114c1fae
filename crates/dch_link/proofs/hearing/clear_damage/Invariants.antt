use Rattle.dch_link.proofs.Hit.{ClearedTo}
use Rattle.dch_link.proofs.hearing.clear_damage.Given as goal

abbrev pub invariant-loop-k : goal.invariant-loop-k
invariant-loop-k l = ClearedTo l.k l.fn.legs l.legs
