use Rattle.dch_nodeb.specs.Moves.{AreDelivered}
use Rattle.dch_nodeb.proofs.uplink.receive.Given as goal

abbrev pub invariant-loop-set : goal.invariant-loop-set
invariant-loop-set g l = AreDelivered g.U.Indications.shows l.accepted l.initial.receiver.rx_frames l.set l.tx_buffers l.receiver l.fn.user l.user
