use Rattle.std.proofs.Common.{◌+◌}
use Rattle.dch_retx.proofs.RequestSet.{has_none}
use Rattle.dch_retx.proofs.request_set.RequestSet.clear.Goals as goal

pub returns : goal.returns
returns c = λ i. has_none (c.self.inside.first + i)
