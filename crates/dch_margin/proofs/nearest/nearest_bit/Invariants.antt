use Rattle.std.proofs.Common.{◌≢◌, ◌<◌, ℕ}
use Rattle.dch_trellis.specs.Distance.{copies_at}
use Rattle.dch_margin.proofs.nearest.nearest_bit.Given as goal

abbrev pub invariant-loop-k : goal.invariant-loop-k
invariant-loop-k l = (j : ℕ) → j < l.k → copies_at l.votes j ≢ l.least
