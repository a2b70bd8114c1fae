-- One step of a terminal: what it knows afterwards, what it reports, and what it sends.
use Rattle.std.specs.Prelude.{◌≡◌, ◌<◌, ◌≤◌, ◌++◌, ℕ, List, [], ◌∷◌, Some, None, true, false, length}
use Rattle.dch_bits.specs.declared.bit.Bit.{Bit}
use Rattle.dch_types.specs.declared.channel.Dir.TheVariants.{Up, Down}
use Rattle.dch_types.specs.Parts.{channel_at}
use Rattle.dch_types.specs.Timing.{ends}
use Rattle.dch_accept.specs.Frames.{Frame}
use Rattle.dch_accept.specs.Plans.{Planned}
use Rattle.dch_tti.specs.Loaded.{Loaded, loaded_at}
use Rattle.dch_tti.specs.Formats.{IsBadFrame}
use Rattle.dch_tti.specs.RxFrames.{RxFrames}
use Rattle.dch_dlphy.specs.Read.{IsTtiRead}
use Rattle.dch_ulphy.specs.Frames.{IsFrame}
use Rattle.dch_ulphy.specs.Loaded.{IsLoaded}
use Rattle.dch_node.specs.Lines.{Phy}
use Rattle.dch_node.specs.RxFrames.{AreHeard}
use Rattle.dch_node.specs.Values.{Output, Radio, no_output, says}
use Rattle.dch_layer2.specs.Layers.{Layer, Outcome, blocks, offers, ticks}
use Rattle.dch_layer2.specs.Starting.{IsStart}
use Rattle.dch_layer2.specs.Joined.{joined_bits}
use Rattle.dch_layer2.specs.Reading.{Bad, Nothing, Read, Reading, reads_below}
use Rattle.dch_ue.specs.State.{Event, OfferedUnit, BlockedCombination, DownlinkFrame, Tick, Change, State, changed, coming, frames_now, ticking, with_layer}

-- what is read of channel i: nothing where its TTI goes on; where it ends, its blocks, or that one of its radio frames
-- is bad
abbrev pub IsReading : Planned → RxFrames → ℕ → Reading → Type 0
IsReading planned rx_frames i Nothing = ends (channel_at planned.config.downlink.side i).frames rx_frames.cfn ≡ false
IsReading planned rx_frames i (Read held) = (ends (channel_at planned.config.downlink.side i).frames rx_frames.cfn
    ≡ true) × IsTtiRead planned rx_frames i held
IsReading planned rx_frames i (Bad frame) = (ends (channel_at planned.config.downlink.side i).frames rx_frames.cfn
    ≡ true) × IsBadFrame planned.config.downlink.side rx_frames i frame

-- the blocks that layer 2 gave to the channels are loaded (TS 25.212 4.2)
abbrev pub AreAllLoaded : Planned → Layer → List Loaded → Type 0
AreAllLoaded planned layer tti =
    (i : ℕ) → i < length planned.config.uplink.side.channels
    → IsLoaded planned i (layer.given i).format (joined_bits (layer.given i).blocks) (loaded_at tti i)

-- the uplink radio frame of a CFN, with what layer 2 gave to the channels, in the combination that runs
pub record IsRadioFrame (planned : Planned) (cfn : ℕ) (layer : Layer) (radio : Radio) : Type 0 where
  pub tti : List Loaded
  pub loaded : AreAllLoaded planned layer tti
  pub frame : Frame
  pub written : IsFrame planned tti cfn layer.running frame
  pub tfci : radio.tfci ≡ frame.tfci
  pub cells : radio.cells ≡ frame.cells

-- layer 2 after the timers ticked and the channels were read in order
abbrev pub has_read : Planned → (ℕ → Reading) → Layer → Outcome
has_read planned readings layer = reads_below planned.config Down readings
    (length planned.config.downlink.side.channels) (ticks planned.config layer)

-- the timers tick, the radio frame that came is taken, the channels whose TTI ends are read, TTIs start, the uplink
-- radio frame is sent, and the CFN goes on
pub record IsTick (planned : Planned) (old new : State) (output : Output) : Type 0 where
  pub rx_frames : RxFrames
  pub kept : AreHeard planned Down old.cfn (frames_now old) rx_frames
  pub readings : (i : ℕ) → i < length planned.config.downlink.side.channels
      → IsReading planned rx_frames i (new.readings i)
  pub no_more : (i : ℕ) → length planned.config.downlink.side.channels ≤ i → new.readings i ≡ Nothing
  pub start : IsStart planned.config Up old.cfn (has_read planned new.readings old.layer).layer new.layer
  pub state : new ≡ ticking old new.readings new.layer
  pub radio : Radio
  pub written : IsRadioFrame planned old.cfn new.layer radio
  pub sent : output.sent ≡ Some radio
  pub reported : output.lines ≡ (has_read planned new.readings old.layer).lines ++ Phy Up radio.tfci radio.cells ∷ []
  pub no_iub : (s : ℕ) → s < 8 → output.iub s ≡ None

-- a unit is offered
pub record IsOffer (planned : Planned) (old : State) (b : ℕ) (octets : List ℕ) (bits : List Bit) (new : State)
    (output : Output) : Type 0 where
  pub state : new ≡ with_layer old (offers planned.config Up b octets bits old.layer).layer
  pub reported : output ≡ says (offers planned.config Up b octets bits old.layer).lines

-- another configuration becomes active, of which nothing is told
pub record IsChange (planned : Planned) (old new : State) (output : Output) : Type 0 where
  pub state : new ≡ changed planned old
  pub quiet : output ≡ no_output

-- one step, in the configuration that is active, or a change to another one
abbrev pub Steps : State → Event → State → Output → Type 0
Steps old (OfferedUnit b octets bits) new output = IsOffer old.planned old b octets bits new output
Steps old (BlockedCombination c on) new output = (new ≡ with_layer old (blocks c on old.layer)) × (output ≡ says [])
Steps old (DownlinkFrame frame) new output = (new ≡ coming old frame) × (output ≡ says [])
Steps old Tick new output = IsTick old.planned old new output
Steps old (Change planned) new output = IsChange planned old new output
