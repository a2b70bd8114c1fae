use Rattle.dch_top.proofs.Meanings.{one_meaning}
use Rattle.dch_top.proofs.arguments.one_meaning_law.Goals as goal

pub returns : goal.returns
returns c = one_meaning
