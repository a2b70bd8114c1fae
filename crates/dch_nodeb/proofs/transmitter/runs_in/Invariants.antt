use Rattle.std.proofs.Common.{◌≡◌, ◌<◌, ℕ}
use Rattle.std.specs.Prelude.{slice_index}
use Rattle.dch_types.specs.Parts.{format_number}
use Rattle.dch_nodeb.proofs.transmitter.runs_in.Given as goal

abbrev pub invariant-loop-i : goal.invariant-loop-i
invariant-loop-i l = (j : ℕ) → j < l.i → slice_index l.formats j ≡ format_number l.side l.combination j
