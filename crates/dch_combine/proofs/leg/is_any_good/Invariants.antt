use Rattle.std.proofs.Common.{◌<◌, ℕ}
use Rattle.dch_combine.specs.Combined.{IsGoodBlock}
use Rattle.dch_combine.proofs.leg.is_any_good.Given as goal

abbrev pub invariant-loop-b : goal.invariant-loop-b
invariant-loop-b l = (j : ℕ) → j < l.b → ¬ IsGoodBlock l.blocks j
