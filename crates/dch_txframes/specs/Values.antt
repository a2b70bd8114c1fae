-- The frames that a node sends, as contracts see them.
use Rattle.std.specs.Prelude.{ℕ, List, [], Bool, true, false, Option, Some, None, slice_index_or}
use Rattle.dch_accept.specs.Frames.{Frame}
use Rattle.dch_accept.specs.HeldSets.{HeldSet}
use Rattle.dch_node.specs.Values.{Radio}
use Rattle.dch_txframes.specs.declared.radio_tx_buffer.RadioTxBuffer.{RadioTxBuffer}

-- an Iub frame: its blocks, its octets where the last step sent it, and how many there is room for
pub record IubTxBuffer : Type 0 where
  pub held : HeldSet
  pub sent : Option (List ℕ)
  pub room : ℕ

-- that of set s
abbrev pub tx_buffer_at : List IubTxBuffer → ℕ → IubTxBuffer
tx_buffer_at tx_buffers s = slice_index_or tx_buffers s (record {
  held = record { set = 0; idle = []; blocks = [] };
  sent = None;
  room = 0;
})

-- the octets of an Iub frame that the last step sent
abbrev pub octets_if : Bool → List ℕ → Option (List ℕ)
octets_if true octets = Some octets
octets_if false octets = None

-- the radio frame that the last step sent
abbrev pub radio_if : Bool → Frame → Option Radio
radio_if true frame = Some (record { tfci = frame.tfci; cells = frame.cells })
radio_if false frame = None

abbrev pub radio_sent : RadioTxBuffer → Option Radio
radio_sent buffer = radio_if buffer.sent buffer.frame
