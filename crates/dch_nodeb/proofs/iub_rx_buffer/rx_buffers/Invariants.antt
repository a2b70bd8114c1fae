use Rattle.dch_nodeb.specs.Opened.{AreNewRxBuffers}
use Rattle.dch_nodeb.proofs.iub_rx_buffer.rx_buffers.Given as goal

abbrev pub invariant-loop-set : goal.invariant-loop-set
invariant-loop-set l = AreNewRxBuffers l.accepted l.set l.rx_buffers.items
