use Rattle.dch_ue.specs.Moves.{AreClearedTo}
use Rattle.dch_ue.proofs.receiver.clear_ttis.Given as goal

abbrev pub invariant-loop-i : goal.invariant-loop-i
invariant-loop-i l = AreClearedTo l.i l.fn.ttis l.ttis
