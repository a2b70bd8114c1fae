use Rattle.dch_steptext.proofs.Texts.{limited_lines}
use Rattle.dch_steptext.proofs.laws.limited_law.Goals as goal

pub returns : goal.returns
returns c = limited_lines
