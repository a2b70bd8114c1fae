use Rattle.std.proofs.Common.{◌≡◌, length}
use Rattle.dch_check.specs.ConfigSection.{behind, gathered}
use Rattle.dch_check.proofs.config_section.ConfigSection.take_section.Given as goal

abbrev pub invariant-lines : goal.invariant-lines
invariant-lines l = (gathered l.self l.left ≡ gathered l.fn.self l.piece) × (behind l.self l.left ≡ behind l.fn.self l.piece)

abbrev pub decreases-lines : goal.decreases-lines
decreases-lines l = length l.left
