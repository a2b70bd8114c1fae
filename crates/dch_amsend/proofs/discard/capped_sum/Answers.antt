use Rattle.std.proofs.Common.{rules}
use Rattle.dch_amsend.specs.SduDiscard.{capped}
use Rattle.dch_amsend.proofs.discard.capped_sum.Goals as goal

pub returns : goal.returns
unfolding capped
returns c = search rules
