use Rattle.std.proofs.Common.{◌<◌, ◌*◌, ℕ, get_or}
use Rattle.dch_bits.specs.declared.bit.Bit.TheVariants.{Zero}
use Rattle.dch_trellis.specs.Inverse.{IsDecided}
use Rattle.dch_trellis.specs.Search.{no_votes}
use Rattle.dch_trellis.proofs.inverse.are_decided.Given as goal

abbrev pub invariant-loop-c : goal.invariant-loop-c
invariant-loop-c l = (j : ℕ) → j < 16 * l.c → IsDecided (get_or l.votes j no_votes) (get_or l.bits j Zero)

abbrev pub invariant-loop-j : goal.invariant-loop-j
invariant-loop-j l = (j : ℕ) → j < l.j → IsDecided (get_or l.votes j no_votes) (get_or l.bits j Zero)
