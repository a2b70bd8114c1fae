use Rattle.dch_margin.proofs.FewestCells.{AreKept}
use Rattle.dch_margin.proofs.fewest.keep_fewer.Given as goal

abbrev pub invariant-loop-m : goal.invariant-loop-m
invariant-loop-m l = AreKept l.counted l.fn.fewest l.m l.fewest
