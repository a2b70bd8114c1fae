-- The parts of a network controller that was opened for a configuration, and maybe for a second one that is to follow.
use Rattle.std.specs.Prelude.{◌≡◌, ◌<◌, ℕ, List, Option, Some, None, length, slice_index}
use Rattle.dch_types.specs.declared.channel.Dir.{Dir}
use Rattle.dch_types.specs.declared.channel.Dir.TheVariants.{Up, Down}
use Rattle.dch_types.specs.declared.channel.Side.{Side}
use Rattle.dch_types.specs.Parts.{channel_at, side_of}
use Rattle.dch_config.specs.Changes.{KeepsBearer}
use Rattle.dch_accept.specs.HeldSets.{HeldSet, IsSetOf}
use Rattle.dch_accept.specs.Plans.{Planned}
use Rattle.dch_txframes.specs.Opened.{AreTxBuffersOf}
use Rattle.dch_txframes.specs.Sending.{AreNewTxBuffers}
use Rattle.dch_layer2.specs.Bounded.{HasLayer}
use Rattle.dch_layer2.specs.Changing.{IsNextLayer}
use Rattle.dch_rnc.specs.Values.{Next, Node, Parts, rx_set_at}

-- the set of each channel of a direction
pub record AreChannelSets (side : Side) (channel_sets : List ℕ) : Type 0 where
  pub all : length channel_sets ≡ length side.channels
  pub each : (i : ℕ) → i < length side.channels → slice_index channel_sets i ≡ (channel_at side i).set
  pub few : (i : ℕ) → i < length side.channels → slice_index channel_sets i < 8

-- memory for the uplink blocks of each set
pub record AreRxSetsOf (planned : Planned) (rx_sets : List HeldSet) : Type 0 where
  pub all : length rx_sets ≡ 8
  pub each : (s : ℕ) → s < 8 → IsSetOf planned.config Up s (rx_set_at rx_sets s)

-- layer 2 sends in the downlink and receives in the uplink, and all parts were opened for the configuration
pub record IsNodeOf (planned : Planned) (node : Node) : Type 0 where
  pub sends : node.layer.out ≡ Down
  pub receives : node.layer.into ≡ Up
  pub layer : HasLayer planned.config node.layer
  pub channel_sets : AreChannelSets planned.config.uplink.side node.channel_sets
  pub rx_sets : AreRxSetsOf planned node.rx_sets
  pub tx_buffers : AreTxBuffersOf planned Down node.tx_buffers

-- it was opened for a configuration that has a channel in a direction
pub record HasChannel (dir : Dir) (node : Node) (channel : ℕ) : Type 0 where
  pub planned : Planned
  pub opened : IsNodeOf planned node
  pub there : channel < length (side_of planned.config dir).channels

-- memory for the uplink blocks of the first sets
pub record AreNewRxSets (planned : Planned) (count : ℕ) (rx_sets : List HeldSet) : Type 0 where
  pub all : length rx_sets ≡ count
  pub each : (s : ℕ) → s < count → IsSetOf planned.config Up s (rx_set_at rx_sets s)

-- the parts for a configuration are new: no frame was sent
pub record AreNew (planned : Planned) (parts : Parts) : Type 0 where
  pub channel_sets : AreChannelSets planned.config.uplink.side parts.channel_sets
  pub rx_sets : AreNewRxSets planned 8 parts.rx_sets
  pub tx_buffers : AreNewTxBuffers planned Down 8 parts.tx_buffers

-- and what layer 2 needs is there
pub record IsNext (planned : Planned) (next : Next) : Type 0 where
  pub layer : IsNextLayer planned.config Down next.layer
  pub parts : AreNew planned next.parts

abbrev pub Holds : Planned → Option Next → Type 0
Holds planned None = ⊥
Holds planned (Some next) = IsNext planned next

-- a second configuration can follow the first one: each bearer is kept, and the network controller holds new parts for
-- it
pub record HasNext (first second : Planned) (node : Node) : Type 0 where
  pub kept : (b : ℕ) → KeepsBearer first.config second.config b
  pub parts : Holds second node.next

-- the network controller was opened for a configuration that is still active, and for this one that can follow it
pub record CanChange (planned : Planned) (node : Node) : Type 0 where
  pub first : Planned
  pub opened : IsNodeOf first node
  pub next : HasNext first planned node
