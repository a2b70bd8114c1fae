use Rattle.std.proofs.Common.{length}
use Rattle.dch_rlcpdu.proofs.Texts.{Progress}
use Rattle.dch_rlcpdu.proofs.put.put_lists.Given as goal

abbrev pub invariant-loop-rest : goal.invariant-loop-rest
invariant-loop-rest l = Progress l.fn.out l.out l.at l.end l.pairs l.rest

abbrev pub decreases-loop-rest : goal.decreases-loop-rest
decreases-loop-rest l = length l.rest
