use Rattle.std.proofs.Common.{◌<◌, ℕ}
use Rattle.dch_combine.specs.Combined.{HasGoodBlock}
use Rattle.dch_combine.specs.Legs.{blocks_in}
use Rattle.dch_combine.specs.Values.{frames_in}
use Rattle.dch_combine.proofs.legs.first_good_block.Given as goal

abbrev pub invariant-loop-k : goal.invariant-loop-k
invariant-loop-k l = (j : ℕ) → j < l.k → ¬ HasGoodBlock (blocks_in (frames_in l.legs j) l.channel) l.format l.b
