use Rattle.std.proofs.Common.{◌≡◌, ◌<◌, ℕ, true}
use Rattle.dch_collision.specs.Steps.{stays}
use Rattle.dch_collision.proofs.fitting.fits.Given as goal

abbrev pub invariant-loop-i : goal.invariant-loop-i
invariant-loop-i l = (j : ℕ) → j < l.i → stays l.side l.frame l.previous l.combination j ≡ true
