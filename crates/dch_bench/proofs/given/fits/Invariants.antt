use Rattle.std.proofs.Common.{◌≡◌, ◌<◌, ℕ, None, Some, slice_index_or}
use Rattle.dch_types.specs.Parts.{format_number}
use Rattle.dch_bench.proofs.given.fits.Given as goal

abbrev pub invariant-loop-i : goal.invariant-loop-i
invariant-loop-i l = (j : ℕ) → j < l.i → slice_index_or l.noted j None ≡ Some (format_number l.side l.combination j)
