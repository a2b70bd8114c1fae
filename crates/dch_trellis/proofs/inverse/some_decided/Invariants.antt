use Rattle.std.proofs.Common.{◌↔◌, ◌<◌, ◌≤◌, ◌+◌, ℕ, IsTrue, get_or}
use Rattle.dch_bits.specs.declared.bit.Bit.TheVariants.{Zero}
use Rattle.dch_trellis.specs.Inverse.{IsDecided}
use Rattle.dch_trellis.specs.Search.{no_votes}
use Rattle.dch_trellis.proofs.inverse.some_decided.Given as goal

abbrev pub invariant-loop-j : goal.invariant-loop-j
invariant-loop-j l = IsTrue l.decided ↔ ((j : ℕ) → l.from ≤ j → j < l.from + l.j → IsDecided (get_or l.votes j no_votes) (get_or l.bits j Zero))
