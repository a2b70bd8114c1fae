use Rattle.std.proofs.Common.{◌/◌, ◌%◌, arith, get_or}
use Rattle.dch_retx.proofs.RequestSet.{rest_above, rest_bits}
use Rattle.dch_retx.proofs.request_set.rest_at.Goals as goal

pub returns-clause-bits : goal.returns-clause-bits
returns-clause-bits c = λ k l. rest_bits c.args.words.now c.args.n k l

pub returns-clause-above : goal.returns-clause-above
returns-clause-above c = λ k l. rest_above (get_or c.args.words.now (c.args.n / 64 % 64) 0) (c.args.n % 64) k (omega arith) l
