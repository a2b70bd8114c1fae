use Rattle.std.proofs.Common.{◌≡◌, ◌<◌, ℕ, Some}
use Rattle.dch_types.specs.Parts.{format_number}
use Rattle.dch_stages.specs.Handlers.{format_in}
use Rattle.dch_stages.proofs.loads.are_of.Given as goal

abbrev pub invariant-loop-i : goal.invariant-loop-i
invariant-loop-i l = (j : ℕ) → j < l.i → format_in l.formats j ≡ Some (format_number l.side l.combination j)
