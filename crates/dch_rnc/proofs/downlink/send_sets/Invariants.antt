use Rattle.dch_rnc.specs.Moves.{AreServed}
use Rattle.dch_rnc.proofs.downlink.send_sets.Given as goal

abbrev pub invariant-loop-set : goal.invariant-loop-set
invariant-loop-set g l = AreServed g.U.Indications.shows l.accepted l.cfn l.layer l.set l.tx_buffers l.fn.user l.user
