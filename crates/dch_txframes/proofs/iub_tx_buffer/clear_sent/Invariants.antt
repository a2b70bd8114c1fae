use Rattle.dch_txframes.specs.Sending.{AreClearedTo}
use Rattle.dch_txframes.proofs.iub_tx_buffer.clear_sent.Given as goal

abbrev pub invariant-loop-set : goal.invariant-loop-set
invariant-loop-set l = AreClearedTo l.set l.fn.tx_buffers l.tx_buffers
