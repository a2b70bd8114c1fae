use Rattle.std.proofs.Common.{arith}
use Rattle.dch_rlcpdu.proofs.Halves.{set_even, set_odd}
use Rattle.dch_rlcpdu.proofs.put.set_half.Goals as goal

pub returns-then-at-eq0 : goal.returns-then-at-eq0
returns-then-at-eq0 c = set_even c.args.out.now c.args.at c.args.value (omega arith) c.requires.value

pub returns-else-at-eq0 : goal.returns-else-at-eq0
returns-else-at-eq0 c = set_odd c.args.out.now c.args.at c.args.value (omega arith) c.requires.value
