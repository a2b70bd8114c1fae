use Rattle.dch_amsend.proofs.Fills.{Counts}
use Rattle.dch_amsend.proofs.left.count_pdus.Given as goal

abbrev pub invariant-loop-count : goal.invariant-loop-count
invariant-loop-count l = Counts l.sdus.items l.fn.first l.first_owed l.octets l.start l.owed l.count
