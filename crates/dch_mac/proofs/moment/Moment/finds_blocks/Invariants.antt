use Rattle.std.proofs.Common.{◌≡◌, ◌<◌, ℕ, true}
use Rattle.dch_mac.specs.Asked.{starts}
use Rattle.dch_mac.specs.Candidates.{finds}
use Rattle.dch_mac.proofs.moment.Moment.finds_blocks.Given as goal

abbrev pub invariant-loop-i : goal.invariant-loop-i
invariant-loop-i l = (i : ℕ) → i < l.i → starts l.self i ≡ true → finds l.self l.combination i ≡ true
