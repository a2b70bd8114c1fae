-- What the parts of a Node B do in a step, each by itself.
use Rattle.std.specs.Prelude.{◌≡◌, ◌≢◌, ◌<◌, ◌≤◌, ◌%◌, ◌⊎◌, ℕ, List, [], ◌∷◌, Option, Some, None, true, false, length, slice_index}
use Rattle.dch_types.specs.declared.channel.Dir.TheVariants.{Down, Up}
use Rattle.dch_types.specs.declared.channel.Side.{Side}
use Rattle.dch_types.specs.declared.config.Config.{Config}
use Rattle.dch_types.specs.Parts.{channel_at, format_number}
use Rattle.dch_accept.specs.Blocks.{Held}
use Rattle.dch_accept.specs.Frames.{Frame}
use Rattle.dch_accept.specs.HeldSets.{IsIdleSet, IsSetOf, held_at}
use Rattle.dch_accept.specs.Plans.{Planned}
use Rattle.dch_tti.specs.Loaded.{loaded_at}
use Rattle.dch_tti.specs.RxFrames.{RxFrames, rx_frame_at}
use Rattle.dch_dlphy.specs.Frames.{IsFrame}
use Rattle.dch_dlphy.specs.Loaded.{IsLoaded}
use Rattle.dch_iub.specs.Answers.{IsCause}
use Rattle.dch_iub.specs.Forms.{IsReadForm}
use Rattle.dch_iub.specs.declared.error.IubError.{IubError}
use Rattle.dch_indication.specs.Lines.{IubBad, Line, joined}
use Rattle.dch_indication.specs.Told.{Told}
use Rattle.dch_txframes.specs.Opened.{AreTxBuffersOf, IsTxBufferOf}
use Rattle.dch_txframes.specs.Values.{IubTxBuffer, radio_sent, tx_buffer_at}
use Rattle.dch_types.specs.Timing.{set_frames, starts}
use Rattle.dch_node.specs.Values.{Radio}
use Rattle.dch_node.specs.RxFrames.{KeepsRadio}
use Rattle.dch_node.specs.IubFrames.{refusal_number}
use Rattle.dch_nodeb.specs.Opened.{AreRxBuffersOf, IsReceiverOf, IsTransmitterOf}
use Rattle.dch_nodeb.specs.Steps.{DeliversSet, radio_line}
use Rattle.dch_nodeb.specs.Values.{IubRxBuffer, UplinkReceiver, DownlinkTransmitter, rx_buffer_at}

-- a receive buffer has a frame that was read
pub record IsFilled (planned : Planned) (set : ℕ) (octets : List ℕ) (rx_buffer : IubRxBuffer) : Type 0 where
  pub cfn : ℕ
  pub named : rx_buffer.cfn ≡ Some cfn
  pub read : IsReadForm planned.config Down set octets cfn 0 rx_buffer.held

-- a frame was read without a word
pub record IsTaken (planned : Planned) (set : ℕ) (octets : List ℕ) (new : IubRxBuffer)
    (lines : List Line) : Type 0 where
  pub filled : IsFilled planned set octets new
  pub quiet : lines ≡ []

-- or refused, which is told
pub record IsRefused (planned : Planned) (set : ℕ) (octets : List ℕ) (old new : IubRxBuffer)
    (lines : List Line) : Type 0 where
  pub error : IubError
  pub cause : IsCause planned.config Down set octets error
  pub same : new ≡ old
  pub reported : lines ≡ IubBad Down set (refusal_number error) ∷ []

-- an Iub frame came for a set
pub record Keeps {S : Type 0} (shows : S → Line → S → Type 0) (planned : Planned) (set : ℕ) (octets : List ℕ)
    (old new : List IubRxBuffer) (before after : S) : Type 0 where
  pub opened : AreRxBuffersOf planned new
  pub others : (s : ℕ) → s ≢ set → rx_buffer_at new s ≡ rx_buffer_at old s
  pub lines : List Line
  pub took : IsTaken planned set octets (rx_buffer_at new set) lines
      ⊎ IsRefused planned set octets (rx_buffer_at old set) (rx_buffer_at new set) lines
  pub told : Told shows before lines after

-- a receive buffer is ready for a TTI that starts at a CFN: it has the blocks of its frame where that is the one of
-- this CFN, and else of the idle formats; and it is empty
pub record IsReady (cfn : ℕ) (old new : IubRxBuffer) : Type 0 where
  pub fits : old.cfn ≡ Some cfn → new.held ≡ old.held
  pub other : old.cfn ≢ Some cfn → (config : Config) (set : ℕ) → IsSetOf config Down set old.held
      → IsIdleSet config Down set new.held
  pub empty : new.cfn ≡ None

-- and so are those of the first sets whose TTI starts; all others are as they were
pub record AreReady (planned : Planned) (cfn count : ℕ) (old new : List IubRxBuffer) : Type 0 where
  pub opened : AreRxBuffersOf planned new
  pub on : (s : ℕ) → s < count → starts (set_frames planned.config.downlink.side s) cfn ≡ true
      → IsReady cfn (rx_buffer_at old s) (rx_buffer_at new s)
  pub off : (s : ℕ) → s < count → starts (set_frames planned.config.downlink.side s) cfn ≡ false → rx_buffer_at new s
      ≡ rx_buffer_at old s
  pub later : (s : ℕ) → count ≤ s → rx_buffer_at new s ≡ rx_buffer_at old s

-- the blocks of channel i are loaded, in the format that is noted
pub record IsGiven (planned : Planned) (i : ℕ) (held : Held) (transmitter : DownlinkTransmitter) : Type 0 where
  pub loaded : IsLoaded planned i held.format held.bits (loaded_at transmitter.running i)
  pub noted : slice_index transmitter.formats i ≡ held.format

-- channel i is as it was
pub record IsUntouched (i : ℕ) (old new : DownlinkTransmitter) : Type 0 where
  pub loaded : loaded_at new.running i ≡ loaded_at old.running i
  pub noted : slice_index new.formats i ≡ slice_index old.formats i

-- a channel was loaded, and no other one
pub record Loads (planned : Planned) (channel : ℕ) (held : Held) (old new : DownlinkTransmitter) : Type 0 where
  pub opened : IsTransmitterOf planned new
  pub given : IsGiven planned channel held new
  pub others : (i : ℕ) → i ≢ channel → IsUntouched i old new
  pub sent : new.radio.sent ≡ old.radio.sent

-- the first channels whose TTI starts were loaded with the blocks of the receive buffers, and no other ones
pub record AreGiven (planned : Planned) (cfn count : ℕ) (rx_buffers : List IubRxBuffer)
    (old new : DownlinkTransmitter) : Type 0 where
  pub opened : IsTransmitterOf planned new
  pub on : (i : ℕ) → i < count → starts (channel_at planned.config.downlink.side i).frames cfn ≡ true
      → IsGiven planned i (held_at (rx_buffer_at rx_buffers
      (channel_at planned.config.downlink.side i).set).held.blocks i) new
  pub off : (i : ℕ) → i < count → starts (channel_at planned.config.downlink.side i).frames cfn ≡ false
      → IsUntouched i old new
  pub later : (i : ℕ) → count ≤ i → IsUntouched i old new
  pub sent : new.radio.sent ≡ old.radio.sent

-- the channels are noted in the formats of combination c
abbrev pub RunsIn : Side → ℕ → List ℕ → Type 0
RunsIn side c formats = (i : ℕ) → i < length side.channels → slice_index formats i ≡ format_number side c i

-- no combination of the first ones has the noted formats
abbrev pub RunsInNone : Side → ℕ → List ℕ → Type 0
RunsInNone side count formats = (c : ℕ) → c < count → ¬ RunsIn side c formats

-- the first combination with the noted formats
pub record IsFirst (side : Side) (formats : List ℕ) (c : ℕ) : Type 0 where
  pub listed : c < length side.combinations
  pub runs : RunsIn side c formats
  pub first : RunsInNone side c formats

abbrev pub FindsFirst : Side → List ℕ → Option ℕ → Type 0
FindsFirst side formats None = RunsInNone side (length side.combinations) formats
FindsFirst side formats (Some c) = IsFirst side formats c

-- a radio frame that is written of what is loaded
pub record IsWritten (planned : Planned) (cfn : ℕ) (transmitter : DownlinkTransmitter) (radio : Radio) : Type 0 where
  pub combination : ℕ
  pub is : IsFirst planned.config.downlink.side transmitter.formats combination
  pub frame : Frame
  pub written : IsFrame planned transmitter.running cfn combination frame
  pub tfci : radio.tfci ≡ frame.tfci
  pub cells : radio.cells ≡ frame.cells

abbrev pub Writes : Planned → ℕ → DownlinkTransmitter → Option Radio → Type 0
Writes planned cfn transmitter None = RunsInNone planned.config.downlink.side
    (length planned.config.downlink.side.combinations) transmitter.formats
Writes planned cfn transmitter (Some radio) = IsWritten planned cfn transmitter radio

-- a radio frame was sent, or none
pub record Sends {S : Type 0} (shows : S → Line → S → Type 0) (planned : Planned) (cfn : ℕ)
    (old new : DownlinkTransmitter) (before after : S) : Type 0 where
  pub opened : IsTransmitterOf planned new
  pub running : new.running ≡ old.running
  pub formats : new.formats ≡ old.formats
  pub writes : Writes planned cfn old (radio_sent new.radio)
  pub shown : shows before (radio_line (radio_sent new.radio)) after

-- the radio frame of the CFN is due: receive buffers are made ready, the channels that start are loaded, and the frame
-- is sent
pub record Transmits {S : Type 0} (shows : S → Line → S → Type 0) (planned : Planned) (cfn : ℕ)
    (old new : List IubRxBuffer) (transmitter sent : DownlinkTransmitter) (before after : S) : Type 0 where
  pub ready : AreReady planned cfn 8 old new
  pub loaded : DownlinkTransmitter
  pub given : AreGiven planned cfn (length planned.config.downlink.side.channels) new transmitter loaded
  pub sends : Sends shows planned cfn loaded sent before after

-- a radio frame is kept for a CFN, or that it is missing
pub record Hears (planned : Planned) (cfn : ℕ) (radio : Option Radio) (old new : RxFrames) : Type 0 where
  pub last : new.cfn ≡ cfn
  pub kept : KeepsRadio planned Up radio (rx_frame_at new.frames (cfn % 8))
  pub others : (k : ℕ) → k ≢ cfn % 8 → rx_frame_at new.frames k ≡ rx_frame_at old.frames k

-- a set was served
pub record Delivered {S : Type 0} (shows : S → Line → S → Type 0) (planned : Planned) (rx_frames : RxFrames) (set : ℕ)
    (tx_buffer : IubTxBuffer) (receiver : UplinkReceiver) (before after : S) : Type 0 where
  pub lines : List Line
  pub serves : DeliversSet planned rx_frames set lines tx_buffer.sent
  pub told : Told shows before lines after
  pub tx_buffer_opened : IsTxBufferOf planned Up set tx_buffer
  pub receiver_opened : IsReceiverOf planned receiver
  pub same : receiver.rx_frames ≡ rx_frames

-- the first sets were served, and the others send nothing
pub record AreDelivered {S : Type 0} (shows : S → Line → S → Type 0) (planned : Planned) (rx_frames : RxFrames)
    (count : ℕ) (tx_buffers : List IubTxBuffer) (receiver : UplinkReceiver) (before after : S) : Type 0 where
  pub lines : ℕ → List Line
  pub sets : (s : ℕ) → s < count → DeliversSet planned rx_frames s (lines s) (tx_buffer_at tx_buffers s).sent
  pub later : (s : ℕ) → count ≤ s → s < 8 → (tx_buffer_at tx_buffers s).sent ≡ None
  pub told : Told shows before (joined lines count) after
  pub tx_buffers_opened : AreTxBuffersOf planned Up tx_buffers
  pub receiver_opened : IsReceiverOf planned receiver
  pub same : receiver.rx_frames ≡ rx_frames

-- an uplink radio frame came, or is missing, and all sets were served
pub record Receives {S : Type 0} (shows : S → Line → S → Type 0) (planned : Planned) (cfn : ℕ) (radio : Option Radio)
    (old : RxFrames) (tx_buffers : List IubTxBuffer) (receiver : UplinkReceiver) (before after : S) : Type 0 where
  pub hears : Hears planned cfn radio old receiver.rx_frames
  pub served : AreDelivered shows planned receiver.rx_frames 8 tx_buffers receiver before after
