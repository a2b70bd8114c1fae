-- The parts of a network controller as contracts see them.
use Rattle.std.specs.Prelude.{◌==◌, ℕ, List, [], Option, Some, None, if◌then◌else◌, slice_index, slice_index_or}
use Rattle.dch_accept.specs.Blocks.{Held}
use Rattle.dch_accept.specs.HeldSets.{HeldSet, held_at}
use Rattle.dch_txframes.specs.Values.{IubTxBuffer, tx_buffer_at}
use Rattle.dch_layer2.specs.Values.{LayerRunning, NextLayer}

-- the blocks that came for set s
abbrev pub rx_set_at : List HeldSet → ℕ → HeldSet
rx_set_at rx_sets s = slice_index_or rx_sets s (record { set = 0; idle = []; blocks = [] })

-- the parts beside layer 2 that are made for a configuration: the set of each uplink channel, the blocks that came for
-- each set, and the downlink Iub frames
pub record Parts : Type 0 where
  pub channel_sets : List ℕ
  pub rx_sets : List HeldSet
  pub tx_buffers : List IubTxBuffer

-- what is held for a second configuration: what layer 2 needs for it, and the parts
pub record Next : Type 0 where
  pub layer : NextLayer
  pub parts : Parts

-- the CFN, layer 2, the set of each uplink channel, the blocks that came for each set, the set whose frame the last
-- step read, if any, the downlink Iub frames, and what is held for a second configuration, if there is one
pub record Node : Type 0 where
  pub cfn : ℕ
  pub layer : LayerRunning
  pub channel_sets : List ℕ
  pub rx_sets : List HeldSet
  pub read : Option ℕ
  pub tx_buffers : List IubTxBuffer
  pub next : Option Next

abbrev pub node_of : ℕ → LayerRunning → Option ℕ → Parts → Option Next → Node
node_of cfn layer read parts next = record {
  cfn = cfn;
  layer = layer;
  channel_sets = parts.channel_sets;
  rx_sets = parts.rx_sets;
  read = read;
  tx_buffers = parts.tx_buffers;
  next = next;
}

-- the octets of an Iub frame that the last step sent
abbrev pub iub_shown : Node → ℕ → Option (List ℕ)
iub_shown node s = (tx_buffer_at node.tx_buffers s).sent

-- the blocks of channel i, where it belongs to the set that was read
abbrev pub blocks_if_read : Option ℕ → List ℕ → List HeldSet → ℕ → Option Held
blocks_if_read None channel_sets rx_sets i = None
blocks_if_read (Some set) channel_sets rx_sets i = if slice_index channel_sets i == set
    then Some (held_at (rx_set_at rx_sets set).blocks i) else None

-- the blocks of channel i that the last step read
abbrev pub taken_shown : Node → ℕ → Option Held
taken_shown node i = blocks_if_read node.read node.channel_sets node.rx_sets i
