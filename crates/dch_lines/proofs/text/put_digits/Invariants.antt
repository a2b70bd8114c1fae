use Rattle.std.proofs.Common.{length}
use Rattle.hex.specs.Hex.{encode_lower}
use Rattle.dch_lines.proofs.Chunks.{Chunks}
use Rattle.dch_lines.proofs.text.put_digits.Given as goal

abbrev pub invariant-parts : goal.invariant-parts
invariant-parts g l = Chunks g.P.Page.writes encode_lower l.initial.page l.octets l.left l.page

abbrev pub decreases-parts : goal.decreases-parts
decreases-parts g l = length l.left
