use Rattle.dch_margin.proofs.Counts.{AreCarried}
use Rattle.dch_margin.proofs.counting.count_uplink.Given as goal

abbrev pub invariant-loop-n : goal.invariant-loop-n
invariant-loop-n l = AreCarried l.config l.i l.f l.sequence l.votes l.n
