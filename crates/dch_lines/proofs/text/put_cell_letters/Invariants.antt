use Rattle.std.proofs.Common.{length, map}
use Rattle.dch_bits.specs.Text.{cell_letter}
use Rattle.dch_lines.proofs.Chunks.{Chunks}
use Rattle.dch_lines.proofs.text.put_cell_letters.Given as goal

abbrev pub invariant-parts : goal.invariant-parts
invariant-parts g l = Chunks g.P.Page.writes (map cell_letter) l.initial.page l.cells l.left l.page

abbrev pub decreases-parts : goal.decreases-parts
decreases-parts g l = length l.left
