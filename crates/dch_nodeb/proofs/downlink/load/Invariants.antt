use Rattle.dch_nodeb.specs.Moves.{AreGiven}
use Rattle.dch_nodeb.proofs.downlink.load.Given as goal

abbrev pub invariant-loop-i : goal.invariant-loop-i
invariant-loop-i l = AreGiven l.accepted l.cfn l.i l.rx_buffers l.fn.transmitter l.transmitter
