-- A terminal and what it stands for: the state of the definition, and the list of what happened at it.
use Rattle.std.specs.Prelude.{◌≡◌, ◌≢◌, ◌<◌, ◌%◌, ℕ, List, None, IsSome, true, false, length}
use Rattle.dch_types.specs.declared.channel.Dir.TheVariants.{Up, Down}
use Rattle.dch_types.specs.declared.config.Config.{Config}
use Rattle.dch_types.specs.Parts.{channel_at}
use Rattle.dch_types.specs.Timing.{starts}
use Rattle.dch_accept.specs.Plans.{Planned}
use Rattle.dch_tti.specs.Loaded.{Loaded, loaded_at}
use Rattle.dch_tti.specs.RxFrames.{HasTfci, rx_frame_at}
use Rattle.dch_ulphy.specs.Loaded.{IsLoaded}
use Rattle.dch_layer2.specs.Bearings.{channel_of}
use Rattle.dch_layer2.specs.Layers.{Layer}
use Rattle.dch_layer2.specs.Joined.{joined_bits}
use Rattle.dch_layer2.specs.Standing.{Represents as StandsFor}
use Rattle.dch_node.specs.Lines.{Line}
use Rattle.dch_node.specs.RxFrames.{KeepsRadio}
use Rattle.dch_node.specs.Standing.{HasHistory, HasLongerHistory, TakesStep}
use Rattle.dch_node.specs.Values.{Output}
use Rattle.dch_txframes.specs.Lending.{radio_of}
use Rattle.dch_ue.specs.declared.event.UeEvent.{UeEvent}
use Rattle.dch_ue.specs.declared.event.UeEvent.TheVariants.{Unit as Offered, Block, Phy, Tick as Ticks, Change as Changes}
use Rattle.dch_ue.specs.Opened.{CanChange, HasNext, IsNodeOf}
use Rattle.dch_ue.specs.State.{Event, OfferedUnit, BlockedCombination, DownlinkFrame, Tick, Change, State, opened_state}
use Rattle.dch_ue.specs.Steps.{Steps}
use Rattle.dch_ue.specs.Values.{DownlinkReceiver, Node, blocks_read, radio_shown, taken_shown, tti_at}

-- what happens, as plain lists, in a configuration that is active, or becomes active in a change
abbrev pub event_of : Planned → UeEvent → Event
event_of planned (Offered b octets bits) = OfferedUnit b octets.now bits.now
event_of planned (Block c on) = BlockedCombination c on
event_of planned (Phy frame) = DownlinkFrame (radio_of frame)
event_of planned Ticks = Tick
event_of planned Changes = Change planned

-- bearer b is there, and has an uplink channel
pub record SendsUp (config : Config) (b : ℕ) : Type 0 where
  pub there : b < length config.bearers
  pub sends : IsSome (channel_of config Up b)

-- an event that may come: its bearer sends in the uplink, its combination is one of the uplink, its radio frame has as
-- many TFCI bits as the downlink sends
abbrev pub MayCome : Planned → UeEvent → Type 0
MayCome planned (Offered b octets bits) = SendsUp planned.config b
MayCome planned (Block c on) = c < length planned.config.uplink.side.combinations
MayCome planned (Phy frame) = HasTfci planned Down frame
MayCome planned Ticks = Unit {0}
MayCome planned Changes = Unit {0}

-- a terminal can take an event: the configuration is active, or in a change it can become active
abbrev pub IsReadyFor : Planned → UeEvent → Node → Type 0
IsReadyFor planned (Offered b octets bits) node = IsNodeOf planned node
IsReadyFor planned (Block c on) node = IsNodeOf planned node
IsReadyFor planned (Phy frame) node = IsNodeOf planned node
IsReadyFor planned Ticks node = IsNodeOf planned node
IsReadyFor planned Changes node = CanChange planned node

-- the configuration that is active before an event: this one itself, or in a change one that it can follow
abbrev pub IsActiveBefore : Planned → UeEvent → Planned → Node → Type 0
IsActiveBefore planned (Offered b octets bits) before node = before ≡ planned
IsActiveBefore planned (Block c on) before node = before ≡ planned
IsActiveBefore planned (Phy frame) before node = before ≡ planned
IsActiveBefore planned Ticks before node = before ≡ planned
IsActiveBefore planned Changes before node = HasNext before planned node

-- what a terminal holds for a second configuration stays, until that becomes active
abbrev pub KeepsNext : Planned → UeEvent → Node → Node → Type 0
KeepsNext planned (Offered b octets bits) old new = (second : Planned) → HasNext planned second old
    → HasNext planned second new
KeepsNext planned (Block c on) old new = (second : Planned) → HasNext planned second old → HasNext planned second new
KeepsNext planned (Phy frame) old new = (second : Planned) → HasNext planned second old → HasNext planned second new
KeepsNext planned Ticks old new = (second : Planned) → HasNext planned second old → HasNext planned second new
KeepsNext planned Changes old new = new.next ≡ None

-- the radio frames that came are kept: those of the CFNs before, and that of the CFN, if it came
pub record HasFrames (planned : Planned) (state : State) (receiver : DownlinkReceiver) : Type 0 where
  pub before : (k : ℕ) → k < 8 → k ≢ state.cfn % 8
      → KeepsRadio planned Down (state.frames k) (rx_frame_at receiver.rx_frames.frames k)
  pub last : receiver.pushed ≡ true → receiver.rx_frames.cfn ≡ state.cfn
  pub came : receiver.pushed ≡ true
      → KeepsRadio planned Down state.came (rx_frame_at receiver.rx_frames.frames (state.cfn % 8))
  pub none : receiver.pushed ≡ false → state.came ≡ None

-- the channels whose TTI goes on at a CFN are loaded with what layer 2 gave to them
abbrev pub AreLoadedOn : Planned → ℕ → Layer → List Loaded → Type 0
AreLoadedOn planned cfn layer tti =
    (i : ℕ) → i < length planned.config.uplink.side.channels
    → starts (channel_at planned.config.uplink.side i).frames cfn ≡ false
    → IsLoaded planned i (layer.given i).format (joined_bits (layer.given i).blocks) (loaded_at tti i)

-- a terminal that was opened for a configuration stands for a state in which that is active, but for what the last step
-- read; and for that too
pub record IsAt (planned : Planned) (state : State) (node : Node) : Type 0 where
  pub active : state.planned ≡ planned
  pub cfn : node.cfn ≡ state.cfn
  pub frames : HasFrames planned state node.receiver
  pub layer : StandsFor planned.config state.layer node.layer
  pub loaded : AreLoadedOn planned state.cfn state.layer node.transmitter.running

pub record Represents (planned : Planned) (state : State) (node : Node) : Type 0 where
  pub at : IsAt planned state node
  pub readings : (i : ℕ) → i < length planned.config.downlink.side.channels → taken_shown node i
      ≡ blocks_read (state.readings i)

-- it shows the radio frame that the last step sent
pub record Shows (output : Output) (node : Node) : Type 0 where
  pub radio : radio_shown node ≡ output.sent

-- nothing is shown as sent or read
pub record NothingShown (node : Node) : Type 0 where
  pub radio : node.transmitter.radio.sent ≡ false
  pub read : (i : ℕ) → (tti_at node.receiver.ttis i).outcome ≡ None

-- a step was taken from a state, and whoever is told is told of its lines
abbrev pub Stepped : Planned → State → Event → Node → (List Line → Type 0) → Type 0
Stepped planned old event node Says = TakesStep Steps (Represents planned) Shows old event node Says

-- a terminal that was opened for a configuration, and in which one is active now, stands for what happened since
-- opening, with the lines of all of them
abbrev pub RepresentsHistory : Planned → Planned → ℕ → List Event → List Line → Node → Type 0
RepresentsHistory began planned first events lines node =
    HasHistory Steps (Represents planned) Shows (opened_state began first) events lines node

-- one more event, with the lines of which whoever is told is told
abbrev pub ExtendsHistory : Planned → Planned → ℕ → List Event → List Line → Event → Node → (List Line → Type 0)
    → Type 0
ExtendsHistory began planned first events lines event node Says =
    HasLongerHistory Steps (Represents planned) Shows (opened_state began first) events lines event node Says
