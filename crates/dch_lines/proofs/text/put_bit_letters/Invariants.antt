use Rattle.std.proofs.Common.{length, map}
use Rattle.dch_bits.specs.Text.{letter_of}
use Rattle.dch_lines.proofs.Chunks.{Chunks}
use Rattle.dch_lines.proofs.text.put_bit_letters.Given as goal

abbrev pub invariant-parts : goal.invariant-parts
invariant-parts g l = Chunks g.P.Page.writes (map letter_of) l.initial.page l.bits l.left l.page

abbrev pub decreases-parts : goal.decreases-parts
decreases-parts g l = length l.left
