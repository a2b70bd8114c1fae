use Rattle.dch_txbuf.proofs.Cutting.{Walks}
use Rattle.dch_txbuf.proofs.taken.next_cut.Given as goal

abbrev pub invariant-loop-i : goal.invariant-loop-i
invariant-loop-i l = Walks l.sdus.items l.start l.room l.free l.used l.i
