use Rattle.dch_tti.proofs.Marks.{AreMarked}
use Rattle.dch_tti.proofs.tti.mark_blocks.Given as goal

abbrev pub invariant-loop-i : goal.invariant-loop-i
invariant-loop-i l = AreMarked l.crc l.size l.joined l.fn.out l.out l.i
