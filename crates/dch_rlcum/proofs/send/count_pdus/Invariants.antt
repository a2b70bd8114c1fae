use Rattle.dch_rlcum.proofs.Following.{Follows}
use Rattle.dch_rlcum.proofs.send.count_pdus.Given as goal

abbrev pub invariant-loop-count : goal.invariant-loop-count
invariant-loop-count l = Follows l.pdu l.mark_start l.sdus.items l.fn.first l.first_owed l.start l.owed l.count
