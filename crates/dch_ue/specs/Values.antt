-- The parts of a terminal as contracts see them.
use Rattle.std.specs.Prelude.{ℕ, List, [], Bool, Option, Some, None, slice_index_or}
use Rattle.dch_accept.specs.Blocks.{Held}
use Rattle.dch_tti.specs.Loaded.{Loaded}
use Rattle.dch_tti.specs.declared.outcome.TtiOutcome.{TtiOutcome}
use Rattle.dch_tti.specs.declared.outcome.TtiOutcome.TheVariants.{Blocks, BadFrame}
use Rattle.dch_tti.specs.RxFrames.{RxFrames}
use Rattle.dch_layer2.specs.Reading.{Bad, Nothing, Read, Reading}
use Rattle.dch_layer2.specs.Values.{LayerRunning, NextLayer}
use Rattle.dch_node.specs.Values.{Radio}
use Rattle.dch_txframes.specs.declared.radio_tx_buffer.RadioTxBuffer.{RadioTxBuffer}
use Rattle.dch_txframes.specs.Values.{radio_sent}

-- the blocks of a downlink channel, and what the last step read of it, if its TTI ended
pub record RxTti : Type 0 where
  pub held : Held
  pub outcome : Option TtiOutcome

-- that of channel i
abbrev pub tti_at : List RxTti → ℕ → RxTti
tti_at ttis i = slice_index_or ttis i (record {
  held = record { format = 0; size = 0; bits = []; good = []; room = 0 };
  outcome = None;
})

-- the radio frames that came, whether that of the CFN is among them, and the TTIs of the channels
pub record DownlinkReceiver : Type 0 where
  pub rx_frames : RxFrames
  pub pushed : Bool
  pub ttis : List RxTti

-- what is loaded for the running TTIs, and the last radio frame
pub record UplinkTransmitter : Type 0 where
  pub running : List Loaded
  pub radio : RadioTxBuffer

-- the parts for a configuration that is to follow
pub record NextParts : Type 0 where
  pub layer : NextLayer
  pub receiver : DownlinkReceiver
  pub transmitter : UplinkTransmitter

-- the parts of a terminal, and those for a second configuration, where one is to follow
pub record Node : Type 0 where
  pub cfn : ℕ
  pub layer : LayerRunning
  pub receiver : DownlinkReceiver
  pub transmitter : UplinkTransmitter
  pub next : Option NextParts

-- what the last step read of a channel
abbrev pub reading_if : Option TtiOutcome → Held → Reading
reading_if None held = Nothing
reading_if (Some Blocks) held = Read held
reading_if (Some (BadFrame n)) held = Bad n

abbrev pub reading_of : RxTti → Reading
reading_of tti = reading_if tti.outcome tti.held

abbrev pub readings_of : List RxTti → ℕ → Reading
readings_of ttis i = reading_of (tti_at ttis i)

-- the blocks of a reading
abbrev pub blocks_read : Reading → Option Held
blocks_read Nothing = None
blocks_read (Read held) = Some held
blocks_read (Bad frame) = None

-- the radio frame that the last step sent, and the blocks of channel i that it read
abbrev pub radio_shown : Node → Option Radio
radio_shown node = radio_sent node.transmitter.radio

abbrev pub taken_shown : Node → ℕ → Option Held
taken_shown node i = blocks_read (readings_of node.receiver.ttis i)
