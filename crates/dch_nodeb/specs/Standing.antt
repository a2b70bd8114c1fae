-- A Node B and what it stands for: the state of the definition, and the list of what happened at it.
use Rattle.std.specs.Prelude.{◌≡◌, ◌<◌, ℕ, List, Option, Some, None, true, false}
use Rattle.dch_types.specs.declared.channel.Dir.TheVariants.{Up}
use Rattle.dch_types.specs.declared.channel.Side.{Side}
use Rattle.dch_types.specs.Timing.{has_set}
use Rattle.dch_accept.specs.Plans.{Planned}
use Rattle.dch_tti.specs.RxFrames.{HasTfci, rx_frame_at}
use Rattle.dch_iub.specs.Shape.{ForSet}
use Rattle.dch_node.specs.Lines.{Line}
use Rattle.dch_node.specs.Standing.{HasHistory, HasLongerHistory, TakesStep}
use Rattle.dch_node.specs.Values.{Output}
use Rattle.dch_txframes.specs.Lending.{radio_of}
use Rattle.dch_node.specs.RxFrames.{KeepsRadio}
use Rattle.dch_node.specs.IubFrames.{blocks_at}
use Rattle.dch_nodeb.specs.declared.event.NodeBEvent.{NodeBEvent}
use Rattle.dch_nodeb.specs.declared.event.NodeBEvent.TheVariants.{Iub, Down as Due, Phy, Change as Changes}
use Rattle.dch_nodeb.specs.Opened.{CanChange, HasNext, IsNodeOf}
use Rattle.dch_nodeb.specs.State.{Change, Event, IubFrame, DownlinkDue, UplinkFrame, DownlinkIubFrame, State, opened_state}
use Rattle.dch_nodeb.specs.Steps.{AreAllLoaded, Steps}
use Rattle.dch_nodeb.specs.Values.{Node, IubRxBuffer, iub_shown, rx_buffer_at, radio_shown}

-- what happens, as plain lists, in the configuration that is active after it
abbrev pub event_of : Planned → NodeBEvent → Event
event_of planned (Iub set frame) = IubFrame set frame.now
event_of planned Due = DownlinkDue
event_of planned (Phy frame) = UplinkFrame (radio_of frame)
event_of planned Changes = Change planned

-- an event that may come: its set exists in the downlink, its radio frame has 30 TFCI bits
abbrev pub MayCome : Planned → NodeBEvent → Type 0
MayCome planned (Iub set frame) = has_set planned.config.downlink.side set ≡ true
MayCome planned Due = Unit {0}
MayCome planned (Phy frame) = HasTfci planned Up frame
MayCome planned Changes = Unit {0}

-- the Node B is open for the configuration that is active: before a change that is another one, which this one can
-- follow
abbrev pub IsReadyFor : Planned → NodeBEvent → Node → Type 0
IsReadyFor planned (Iub set frame) node = IsNodeOf planned node
IsReadyFor planned Due node = IsNodeOf planned node
IsReadyFor planned (Phy frame) node = IsNodeOf planned node
IsReadyFor planned Changes node = CanChange planned node

-- the configuration that is active before an event
abbrev pub IsActiveBefore : Planned → NodeBEvent → Planned → Node → Type 0
IsActiveBefore planned (Iub set frame) before node = before ≡ planned
IsActiveBefore planned Due before node = before ≡ planned
IsActiveBefore planned (Phy frame) before node = before ≡ planned
IsActiveBefore planned Changes before node = HasNext before planned node

-- the Node B still holds its parts for a second configuration, if it did; a change takes them
abbrev pub KeepsNext : Planned → NodeBEvent → Node → Node → Type 0
KeepsNext planned (Iub set frame) old new = (second : Planned) → HasNext planned second old → HasNext planned second new
KeepsNext planned Due old new = (second : Planned) → HasNext planned second old → HasNext planned second new
KeepsNext planned (Phy frame) old new = (second : Planned) → HasNext planned second old → HasNext planned second new
KeepsNext planned Changes old new = new.next ≡ None

-- a receive buffer has the frame that is kept for a set, if one is
abbrev pub KeepsFrame : Side → ℕ → Option DownlinkIubFrame → IubRxBuffer → Type 0
KeepsFrame side set None rx_buffer = rx_buffer.cfn ≡ None
KeepsFrame side set (Some frame) rx_buffer = (rx_buffer.cfn ≡ Some frame.cfn)
    × ForSet side set (λ i. blocks_at rx_buffer.held i ≡ frame.blocks i)

-- a Node B that was opened for a configuration stands for a state in which that is active
pub record Represents (planned : Planned) (state : State) (node : Node) : Type 0 where
  pub active : state.planned ≡ planned
  pub cfn : node.cfn ≡ state.cfn
  pub kept : (s : ℕ) → s < 8 → KeepsFrame planned.config.downlink.side s (state.kept s) (rx_buffer_at node.rx_buffers s)
  pub given : AreAllLoaded planned state.given node.transmitter.running
  pub frames : (k : ℕ) → k < 8 → KeepsRadio planned Up (state.frames k) (rx_frame_at node.receiver.rx_frames.frames k)

-- it shows what the last step sent
pub record Shows (output : Output) (node : Node) : Type 0 where
  pub radio : radio_shown node ≡ output.sent
  pub iub : (s : ℕ) → s < 8 → iub_shown node s ≡ output.iub s

-- nothing is shown as sent
pub record NothingSent (node : Node) : Type 0 where
  pub radio : node.transmitter.radio.sent ≡ false
  pub iub : (s : ℕ) → s < 8 → iub_shown node s ≡ None

-- a step was taken from a state, and whoever is told is told of its lines
abbrev pub Stepped : Planned → State → Event → Node → (List Line → Type 0) → Type 0
Stepped planned old event node Says = TakesStep Steps (Represents planned) Shows old event node Says

-- a Node B stands for what happened since it was opened for a configuration, with the lines of all of them; this one is
-- active now
abbrev pub RepresentsHistory : Planned → Planned → ℕ → List Event → List Line → Node → Type 0
RepresentsHistory began planned first events lines node =
    HasHistory Steps (Represents planned) Shows (opened_state began first) events lines node

-- one more event, with the lines of which whoever is told is told
abbrev pub ExtendsHistory : Planned → Planned → ℕ → List Event → List Line → Event → Node → (List Line → Type 0)
    → Type 0
ExtendsHistory began planned first events lines event node Says =
    HasLongerHistory Steps (Represents planned) Shows (opened_state began first) events lines event node Says
