use Rattle.std.proofs.Common.{◌≡◌, ◌<◌, ℕ, get_or}
use Rattle.dch_inter.specs.Places.{second_of}
use Rattle.dch_frame.proofs.interleaver.fill.Given as goal

abbrev pub invariant-loop-k : goal.invariant-loop-k
invariant-loop-k l = (j : ℕ) → j < l.k → get_or l.places j 0 ≡ second_of l.len j
