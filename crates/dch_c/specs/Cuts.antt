-- What C sees of the code blocks into which bits are cut.
use Rattle.dch_coding.specs.declared.cut.Plan.{Plan}
use Rattle.dch_c.specs.declared.coder.Cut.{Cut}

abbrev pub cut_of : Plan → Cut
cut_of plan = record { blocks = plan.blocks; size = plan.size; filler = plan.filler }
