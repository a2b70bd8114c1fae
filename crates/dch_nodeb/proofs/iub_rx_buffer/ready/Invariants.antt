use Rattle.dch_nodeb.specs.Moves.{AreReady}
use Rattle.dch_nodeb.proofs.iub_rx_buffer.ready.Given as goal

abbrev pub invariant-loop-set : goal.invariant-loop-set
invariant-loop-set l = AreReady l.accepted l.cfn l.set l.fn.rx_buffers l.rx_buffers
