-- The parts of a terminal that was opened for a configuration.
use Rattle.std.specs.Prelude.{◌≡◌, ◌<◌, ◌%◌, ℕ, List, Option, Some, None, true, false, length}
use Rattle.dch_types.specs.declared.channel.Dir.{Dir}
use Rattle.dch_types.specs.declared.channel.Dir.TheVariants.{Up, Down}
use Rattle.dch_types.specs.Parts.{channel_at, format_number, side_of}
use Rattle.dch_types.specs.Timing.{starts}
use Rattle.dch_config.specs.Changes.{KeepsBearer}
use Rattle.dch_accept.specs.Blocks.{HoldsTtis}
use Rattle.dch_accept.specs.Frames.{most_cells}
use Rattle.dch_accept.specs.HeldSets.{held_at}
use Rattle.dch_accept.specs.Plans.{Planned}
use Rattle.dch_tti.specs.Loaded.{Loaded, loaded_at}
use Rattle.dch_tti.specs.RxFrames.{AreMissing, IsReaderOf}
use Rattle.dch_ulphy.specs.Loaded.{IsTtiOf}
use Rattle.dch_layer2.specs.Bounded.{HasLayer}
use Rattle.dch_layer2.specs.Changing.{IsNextLayer}
use Rattle.dch_layer2.specs.Values.{LayerRunning}
use Rattle.dch_txframes.specs.Opened.{IsRadioTxOf}
use Rattle.dch_ue.specs.Values.{DownlinkReceiver, NextParts, Node, RxTti, UplinkTransmitter, tti_at}

-- room for the TTIs of each channel
pub record AreTtisOf (planned : Planned) (ttis : List RxTti) : Type 0 where
  pub all : length ttis ≡ length planned.config.downlink.side.channels
  pub each : (i : ℕ) → i < length planned.config.downlink.side.channels
      → HoldsTtis planned.config.downlink.side (tti_at ttis i).held.room

-- memory for the TTIs of the first channels, of which nothing was read
pub record AreNewTtis (planned : Planned) (count : ℕ) (ttis : List RxTti) : Type 0 where
  pub all : length ttis ≡ count
  pub each : (i : ℕ) → i < count → (tti_at ttis i).outcome ≡ None
  pub room : (i : ℕ) → i < count → HoldsTtis planned.config.downlink.side (tti_at ttis i).held.room

-- what receives radio frames fits the downlink
pub record IsReceiverOf (planned : Planned) (receiver : DownlinkReceiver) : Type 0 where
  pub rx_frames : IsReaderOf planned Down receiver.rx_frames
  pub ttis : AreTtisOf planned receiver.ttis

-- what sends them fits the uplink
pub record IsTransmitterOf (planned : Planned) (transmitter : UplinkTransmitter) : Type 0 where
  pub running : IsTtiOf planned transmitter.running
  pub radio : IsRadioTxOf planned Up transmitter.radio

-- the channels whose TTI goes on at a CFN are loaded in the format of the combination that runs
abbrev pub AreNoted : Planned → ℕ → ℕ → List Loaded → Type 0
AreNoted planned cfn running tti =
    (i : ℕ) → i < length planned.config.uplink.side.channels
    → starts (channel_at planned.config.uplink.side i).frames cfn ≡ false
    → (loaded_at tti i).format ≡ Some (format_number planned.config.uplink.side running i)

-- the channels whose TTI starts at a CFN were given the format of the combination that runs
abbrev pub AreGivenAs : Planned → ℕ → LayerRunning → Type 0
AreGivenAs planned cfn layer =
    (i : ℕ) → i < length planned.config.uplink.side.channels
    → starts (channel_at planned.config.uplink.side i).frames cfn ≡ true
    → (held_at layer.given i).format ≡ format_number planned.config.uplink.side layer.running i

-- layer 2 sends in the uplink and receives in the downlink, all parts were opened for the configuration, and a radio
-- frame that came is that of the CFN
pub record IsNodeOf (planned : Planned) (node : Node) : Type 0 where
  pub sends : node.layer.out ≡ Up
  pub receives : node.layer.into ≡ Down
  pub layer : HasLayer planned.config node.layer
  pub receiver : IsReceiverOf planned node.receiver
  pub transmitter : IsTransmitterOf planned node.transmitter
  pub noted : AreNoted planned node.cfn node.layer.running node.transmitter.running
  pub last : node.receiver.pushed ≡ true → node.receiver.rx_frames.cfn ≡ node.cfn

-- it was opened for a configuration that has a channel in a direction
pub record HasChannel (dir : Dir) (node : Node) (channel : ℕ) : Type 0 where
  pub planned : Planned
  pub opened : IsNodeOf planned node
  pub there : channel < length (side_of planned.config dir).channels

-- parts that were opened for a configuration, in which nothing came and nothing was sent
pub record IsNextOf (planned : Planned) (next : NextParts) : Type 0 where
  pub layer : IsNextLayer planned.config Up next.layer
  pub receiver : IsReceiverOf planned next.receiver
  pub missing : AreMissing (most_cells planned.config Down) 8 next.receiver.rx_frames.frames
  pub none : next.receiver.pushed ≡ false
  pub ttis : AreNewTtis planned (length planned.config.downlink.side.channels) next.receiver.ttis
  pub transmitter : IsTransmitterOf planned next.transmitter
  pub quiet : next.transmitter.radio.sent ≡ false

abbrev pub Holds : Planned → Option NextParts → Type 0
Holds planned None = ⊥
Holds planned (Some next) = IsNextOf planned next

-- a second configuration can follow: each bearer of the first one is kept, and the terminal holds its parts for the
-- second one
pub record HasNext (first second : Planned) (node : Node) : Type 0 where
  pub kept : (b : ℕ) → KeepsBearer first.config second.config b
  pub parts : Holds second node.next

-- it was opened for a first configuration, and a second one can become active now, when the TTIs of all channels have
-- ended
pub record CanChange (planned : Planned) (node : Node) : Type 0 where
  pub first : Planned
  pub opened : IsNodeOf first node
  pub next : HasNext first planned node
  pub whole : node.cfn % 8 ≡ 0
