use Rattle.dch_layer2.proofs.laws.count_law.Goals as goal
use Rattle.dch_layer2.proofs.Counting.{offers_kept}

pub returns : goal.returns
returns c = offers_kept
