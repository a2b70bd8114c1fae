use Rattle.std.proofs.Common.{◌<◌, ℕ}
use Rattle.dch_combine.specs.Combined.{HasGood}
use Rattle.dch_combine.specs.Legs.{blocks_in}
use Rattle.dch_combine.specs.Values.{frames_in}
use Rattle.dch_combine.proofs.legs.first_good.Given as goal

abbrev pub invariant-loop-k : goal.invariant-loop-k
invariant-loop-k l = (j : ℕ) → j < l.k → ¬ HasGood (blocks_in (frames_in l.legs j) l.channel)
