use Rattle.std.proofs.Common.{◌≡◌, ◌<◌, ◌≤◌, ◌+◌, ℕ, get_or, length}
use Rattle.dch_bits.specs.declared.bit.Bit.TheVariants.{Zero}
use Rattle.dch_coding.proofs.convolution.feed.Given as goal

abbrev pub invariant-loop-i : goal.invariant-loop-i
invariant-loop-i l = record {
  long : length l.inputs ≡ 520;
  before : (j : ℕ) → j < 8 → get_or l.inputs j Zero ≡ Zero;
  written : (j : ℕ) → j < l.i → get_or l.inputs (8 + j) Zero ≡ get_or l.block j Zero;
  past : (j : ℕ) → 8 + l.i ≤ j → get_or l.inputs j Zero ≡ Zero;
}
