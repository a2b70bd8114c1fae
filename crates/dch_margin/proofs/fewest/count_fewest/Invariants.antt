use Rattle.dch_margin.proofs.FewestCells.{AreFewestUpTo}
use Rattle.dch_margin.proofs.fewest.count_fewest.Given as goal

abbrev pub invariant-loop-n : goal.invariant-loop-n
invariant-loop-n l = AreFewestUpTo l.config l.i l.f l.votes l.n
