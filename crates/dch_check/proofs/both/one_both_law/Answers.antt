use Rattle.dch_check.proofs.BothJudgements.{one_both}
use Rattle.dch_check.proofs.both.one_both_law.Goals as goal

pub returns : goal.returns
returns c = one_both
