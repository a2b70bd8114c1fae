use Rattle.std.proofs.Common.{ℕ, ◌<◌}
use Rattle.dch_config.specs.Changes.{KeepsBearer}
use Rattle.dch_config.proofs.changing.change.Given as goal

abbrev pub invariant-loop-b : goal.invariant-loop-b
invariant-loop-b l = (a : ℕ) → a < l.b → KeepsBearer l.first l.second a
