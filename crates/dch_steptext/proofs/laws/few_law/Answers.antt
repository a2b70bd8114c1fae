use Rattle.dch_steptext.proofs.Texts.{short_line}
use Rattle.dch_steptext.proofs.laws.few_law.Goals as goal

pub returns : goal.returns
returns c = short_line
