use Rattle.std.proofs.Common.{◌≡◌, ◌<◌, ◌≤◌, ℕ, ◌-◌, length, false}
use Rattle.std.specs.Prelude.{slice_index_or}
use Rattle.dch_link.proofs.check.next_good.Given as goal

abbrev pub invariant-bad : goal.invariant-bad
invariant-bad l = (l.i ≤ l.at) × (l.at ≤ length l.taken.good) × ((k : ℕ) → l.i ≤ k → k < l.at → slice_index_or l.taken.good k false ≡ false)

abbrev pub decreases-bad : goal.decreases-bad
decreases-bad l = length l.taken.good - l.at
