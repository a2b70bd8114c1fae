use Rattle.std.proofs.Common.{◌<◌, ◌≤◌, ℕ, length}
use Rattle.dch_damage.specs.Tables.{set_in}
use Rattle.dch_damage.proofs.iub.longest_of_sets.Given as goal

abbrev pub invariant-loop-set : goal.invariant-loop-set
invariant-loop-set l = (s : ℕ) → s < l.set → length (set_in l.sets s).masks ≤ l.longest
