use Rattle.std.proofs.Common.{◌+◌}
use Rattle.dch_retx.proofs.RequestSet.{has_none}
use Rattle.dch_retx.proofs.request_set.RequestSet.new.Goals as goal

pub returns : goal.returns
returns c = λ i. has_none (0 + i)
