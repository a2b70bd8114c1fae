use Rattle.std.proofs.Common.{◌≡◌, ◌<◌, ℕ, Some}
use Rattle.dch_types.specs.Parts.{format_number}
use Rattle.dch_tti.specs.Loaded.{loaded_at}
use Rattle.dch_handle.proofs.channels.are_formats.Given as goal

abbrev pub invariant-loop-i : goal.invariant-loop-i
invariant-loop-i l = (j : ℕ) → j < l.i → (loaded_at l.tti_buffers j).format ≡ Some (format_number l.side l.combination j)
