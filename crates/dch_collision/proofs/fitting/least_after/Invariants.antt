use Rattle.std.proofs.Common.{◌≡◌, ◌<◌, ◌≤◌, ℕ, false}
use Rattle.dch_collision.specs.Steps.{fits}
use Rattle.dch_collision.proofs.fitting.least_after.Given as goal

abbrev pub invariant-loop-combination : goal.invariant-loop-combination
invariant-loop-combination l = (c : ℕ) → 0 ≤ c → c < l.combination → fits l.side l.channel l.format l.frame l.previous c ≡ false
