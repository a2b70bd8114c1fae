use Rattle.dch_combine.specs.Values.{frames_in}
use Rattle.dch_combine.proofs.Estimates.{FindsBestOf}
use Rattle.dch_combine.proofs.legs.best_qe.Given as goal

abbrev pub invariant-loop-k : goal.invariant-loop-k
invariant-loop-k l = FindsBestOf (frames_in l.legs) l.k l.best
