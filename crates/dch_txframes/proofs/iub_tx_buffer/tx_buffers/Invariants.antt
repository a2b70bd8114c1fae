use Rattle.dch_txframes.specs.Sending.{AreNewTxBuffers}
use Rattle.dch_txframes.proofs.iub_tx_buffer.tx_buffers.Given as goal

abbrev pub invariant-loop-set : goal.invariant-loop-set
invariant-loop-set l = AreNewTxBuffers l.accepted l.dir l.set l.tx_buffers.items
