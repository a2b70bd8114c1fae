use Rattle.dch_ue.specs.Moves.{AreLoadedTo}
use Rattle.dch_ue.proofs.transmitter.load.Given as goal

abbrev pub invariant-loop-i : goal.invariant-loop-i
invariant-loop-i l = AreLoadedTo l.accepted l.cfn l.i l.layer l.fn.tti l.tti
