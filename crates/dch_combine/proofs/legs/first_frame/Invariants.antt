use Rattle.std.proofs.Common.{◌<◌, ℕ}
use Rattle.std.specs.Prelude.{IsSome}
use Rattle.dch_combine.specs.Values.{frames_in}
use Rattle.dch_combine.proofs.legs.first_frame.Given as goal

abbrev pub invariant-loop-k : goal.invariant-loop-k
invariant-loop-k l = (j : ℕ) → j < l.k → ¬ IsSome (frames_in l.legs j)
