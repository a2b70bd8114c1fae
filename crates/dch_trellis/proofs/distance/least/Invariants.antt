use Rattle.dch_trellis.proofs.Away.{IsLeastAway}
use Rattle.dch_trellis.proofs.distance.least.Given as goal

abbrev pub invariant-loop-k : goal.invariant-loop-k
invariant-loop-k l = IsLeastAway l.rate l.votes l.size l.filler l.k l.least
