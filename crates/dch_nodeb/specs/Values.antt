-- The parts of a Node B as contracts see them.
use Rattle.std.specs.Prelude.{ℕ, List, [], Option, None, slice_index_or}
use Rattle.dch_accept.specs.Blocks.{Held}
use Rattle.dch_accept.specs.HeldSets.{HeldSet}
use Rattle.dch_tti.specs.Loaded.{Loaded}
use Rattle.dch_tti.specs.RxFrames.{RxFrames}
use Rattle.dch_node.specs.Values.{Radio}
use Rattle.dch_txframes.specs.declared.radio_tx_buffer.RadioTxBuffer.{RadioTxBuffer}
use Rattle.dch_txframes.specs.Values.{IubTxBuffer, radio_sent, tx_buffer_at}

-- a receive buffer for the downlink Iub frame of a set: the CFN of the frame, if one is kept, and the blocks
pub record IubRxBuffer : Type 0 where
  pub cfn : Option ℕ
  pub held : HeldSet

-- the receive buffer of set s
abbrev pub rx_buffer_at : List IubRxBuffer → ℕ → IubRxBuffer
rx_buffer_at rx_buffers s = slice_index_or rx_buffers s (record {
  cfn = None;
  held = record { set = 0; idle = []; blocks = [] };
})

-- what is loaded for the running TTIs, in which format each channel, and the last radio frame, which the last step may
-- have sent
pub record DownlinkTransmitter : Type 0 where
  pub running : List Loaded
  pub formats : List ℕ
  pub radio : RadioTxBuffer

-- the radio frames that came, and room for the blocks of a TTI
pub record UplinkReceiver : Type 0 where
  pub rx_frames : RxFrames
  pub tti : Held

-- the parts of a Node B that are made for a configuration
pub record Parts : Type 0 where
  pub rx_buffers : List IubRxBuffer
  pub transmitter : DownlinkTransmitter
  pub receiver : UplinkReceiver
  pub tx_buffers : List IubTxBuffer

-- the parts of a Node B, and those that it holds for a second configuration, if it does
pub record Node : Type 0 where
  pub cfn : ℕ
  pub rx_buffers : List IubRxBuffer
  pub transmitter : DownlinkTransmitter
  pub receiver : UplinkReceiver
  pub tx_buffers : List IubTxBuffer
  pub next : Option Parts

abbrev pub node_of : ℕ → Parts → Option Parts → Node
node_of cfn parts next = record {
  cfn = cfn;
  rx_buffers = parts.rx_buffers;
  transmitter = parts.transmitter;
  receiver = parts.receiver;
  tx_buffers = parts.tx_buffers;
  next = next;
}

-- the radio frame that the last step sent, and the Iub frame of a set
abbrev pub radio_shown : Node → Option Radio
radio_shown node = radio_sent node.transmitter.radio

abbrev pub iub_shown : Node → ℕ → Option (List ℕ)
iub_shown node s = (tx_buffer_at node.tx_buffers s).sent
