use Rattle.dch_check.proofs.Singles.{one_single}
use Rattle.dch_check.proofs.single.one_single_law.Goals as goal

pub returns : goal.returns
returns c = one_single
