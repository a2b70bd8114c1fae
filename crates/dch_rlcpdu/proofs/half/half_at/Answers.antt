use Rattle.std.proofs.Common.{arith}
use Rattle.dch_rlcpdu.proofs.Halves.{half_even, half_odd}
use Rattle.dch_rlcpdu.proofs.half.half_at.Goals as goal

pub returns-then-at-eq0-clause-value : goal.returns-then-at-eq0-clause-value
returns-then-at-eq0-clause-value c = half_even c.args.octets.now c.args.at (omega arith)

pub returns-else-at-eq0-clause-value : goal.returns-else-at-eq0-clause-value
returns-else-at-eq0-clause-value c = half_odd c.args.octets.now c.args.at (omega arith)
