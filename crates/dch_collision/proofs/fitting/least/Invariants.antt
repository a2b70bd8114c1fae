use Rattle.std.proofs.Common.{◌≡◌, ◌<◌, ◌≤◌, ℕ, false}
use Rattle.dch_collision.specs.Steps.{fits}
use Rattle.dch_collision.proofs.fitting.least.Given as goal

abbrev pub invariant-loop-combination : goal.invariant-loop-combination
invariant-loop-combination l = (c : ℕ) → l.from ≤ c → c < l.combination → fits l.side l.channel l.format l.frame l.previous c ≡ false
