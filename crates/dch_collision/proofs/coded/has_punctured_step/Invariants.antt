use Rattle.std.proofs.Common.{◌≡◌, ◌<◌, ◌≤◌, ℕ}
use Rattle.std.specs.Prelude.{false}
use Rattle.dch_collision.specs.Hidden.{is_punctured}
use Rattle.dch_collision.proofs.coded.has_punctured_step.Given as goal

abbrev pub invariant-loop-k : goal.invariant-loop-k
invariant-loop-k l = (k : ℕ) → l.filler ≤ k → k < l.k → is_punctured l.rate l.sent_flags k ≡ false
