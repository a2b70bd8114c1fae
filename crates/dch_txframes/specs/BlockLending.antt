-- What an Iub frame is after its blocks were lent.
use Rattle.std.specs.Borrow.{Lends, MutBor, Fml}
use Rattle.dch_accept.specs.HeldSets.{HeldSet}
use Rattle.dch_accept.specs.contracts.set_blocks.SetBlocks.{the_row as blocks_row}
use Rattle.dch_txframes.specs.Values.{IubTxBuffer}
use Rattle.dch_txframes.specs.contracts.iub_tx_buffer.IubTxBuffer.{the_row}

-- the frame with other blocks
abbrev pub with_held : IubTxBuffer → HeldSet → IubTxBuffer
with_held tx_buffer held = record tx_buffer { held = held }

-- the frame ends with the blocks that were written last
abbrev pub LendsBlocks : MutBor IubTxBuffer → MutBor HeldSet → Fml
LendsBlocks tx_buffer lent = Lends the_row blocks_row tx_buffer lent (with_held tx_buffer.now)
