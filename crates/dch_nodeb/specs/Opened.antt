-- The parts of a Node B that was opened for a configuration, and maybe for a second one that is to follow.
use Rattle.std.specs.Prelude.{◌≡◌, ◌<◌, ℕ, List, Option, Some, None, false, length, slice_index}
use Rattle.dch_types.specs.declared.channel.Dir.TheVariants.{Up, Down}
use Rattle.dch_config.specs.Changes.{KeepsBearer}
use Rattle.dch_accept.specs.Blocks.{HoldsTtis}
use Rattle.dch_accept.specs.Frames.{most_cells}
use Rattle.dch_accept.specs.HeldSets.{IsIdleSet, IsSetOf}
use Rattle.dch_accept.specs.Plans.{Planned}
use Rattle.dch_tti.specs.RxFrames.{AreMissing, IsReaderOf}
use Rattle.dch_tti.specs.Loaded.{Loaded, loaded_at}
use Rattle.dch_dlphy.specs.Loaded.{IsTtiOf}
use Rattle.dch_node.specs.Values.{idle_blocks}
use Rattle.dch_txframes.specs.Opened.{AreTxBuffersOf, IsRadioTxOf}
use Rattle.dch_txframes.specs.Sending.{AreNewTxBuffers}
use Rattle.dch_nodeb.specs.Steps.{AreAllLoaded}
use Rattle.dch_nodeb.specs.Values.{Node, Parts, IubRxBuffer, UplinkReceiver, DownlinkTransmitter, rx_buffer_at}

-- a receive buffer for each set, which is one of that set
pub record AreRxBuffersOf (planned : Planned) (rx_buffers : List IubRxBuffer) : Type 0 where
  pub all : length rx_buffers ≡ 8
  pub each : (s : ℕ) → s < 8 → IsSetOf planned.config Down s (rx_buffer_at rx_buffers s).held

-- what sends radio frames fits the downlink
pub record IsTransmitterOf (planned : Planned) (transmitter : DownlinkTransmitter) : Type 0 where
  pub running : IsTtiOf planned transmitter.running
  pub radio : IsRadioTxOf planned Down transmitter.radio
  pub eight : length transmitter.formats ≡ 8

-- the noted formats are those that are loaded
abbrev pub AreNoted : Planned → List ℕ → List Loaded → Type 0
AreNoted planned formats tti =
    (i : ℕ) → i < length planned.config.downlink.side.channels → (loaded_at tti i).format ≡ Some (slice_index formats i)

-- what receives radio frames fits the uplink
pub record IsReceiverOf (planned : Planned) (receiver : UplinkReceiver) : Type 0 where
  pub rx_frames : IsReaderOf planned Up receiver.rx_frames
  pub tti : HoldsTtis planned.config.uplink.side receiver.tti.room

-- all parts were opened for the configuration
pub record IsNodeOf (planned : Planned) (node : Node) : Type 0 where
  pub rx_buffers : AreRxBuffersOf planned node.rx_buffers
  pub transmitter : IsTransmitterOf planned node.transmitter
  pub noted : AreNoted planned node.transmitter.formats node.transmitter.running
  pub receiver : IsReceiverOf planned node.receiver
  pub tx_buffers : AreTxBuffersOf planned Up node.tx_buffers

-- receive buffers for the first sets, with idle formats and no frame
pub record AreNewRxBuffers (planned : Planned) (count : ℕ) (rx_buffers : List IubRxBuffer) : Type 0 where
  pub all : length rx_buffers ≡ count
  pub empty : (s : ℕ) → s < count → (rx_buffer_at rx_buffers s).cfn ≡ None
  pub idle : (s : ℕ) → s < count → IsIdleSet planned.config Down s (rx_buffer_at rx_buffers s).held

-- what sends radio frames is new: every channel runs its idle format, and nothing was sent
pub record IsNewTransmitter (planned : Planned) (transmitter : DownlinkTransmitter) : Type 0 where
  pub opened : IsTransmitterOf planned transmitter
  pub noted : AreNoted planned transmitter.formats transmitter.running
  pub idle : AreAllLoaded planned (idle_blocks planned.config.downlink.side) transmitter.running
  pub quiet : transmitter.radio.sent ≡ false

-- what receives radio frames is new: none came
pub record IsNewReceiver (planned : Planned) (receiver : UplinkReceiver) : Type 0 where
  pub opened : IsReceiverOf planned receiver
  pub missing : AreMissing (most_cells planned.config Up) 8 receiver.rx_frames.frames

-- the parts for a configuration are new
pub record AreNew (planned : Planned) (parts : Parts) : Type 0 where
  pub rx_buffers : AreNewRxBuffers planned 8 parts.rx_buffers
  pub transmitter : IsNewTransmitter planned parts.transmitter
  pub receiver : IsNewReceiver planned parts.receiver
  pub tx_buffers : AreNewTxBuffers planned Up 8 parts.tx_buffers

abbrev pub Holds : Planned → Option Parts → Type 0
Holds planned None = ⊥
Holds planned (Some parts) = AreNew planned parts

-- a second configuration can follow the first one: each bearer is kept, and the Node B holds new parts for it
pub record HasNext (first second : Planned) (node : Node) : Type 0 where
  pub kept : (b : ℕ) → KeepsBearer first.config second.config b
  pub parts : Holds second node.next

-- the Node B was opened for a configuration that is still active, and for this one that can follow it
pub record CanChange (planned : Planned) (node : Node) : Type 0 where
  pub first : Planned
  pub opened : IsNodeOf first node
  pub next : HasNext first planned node
