use Rattle.std.proofs.Common.{take}
use Rattle.dch_rlcpdu.specs.Writing.{pairs_text}
use Rattle.dch_rlcpdu.proofs.Texts.{Adds}
use Rattle.dch_rlcpdu.proofs.put.put_pairs.Given as goal

abbrev pub invariant-loop-i : goal.invariant-loop-i
invariant-loop-i l = Adds l.at (pairs_text (take l.i l.pairs)) l.fn.out l.out
