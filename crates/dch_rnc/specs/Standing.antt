-- A network controller and what it stands for: the state of the definition, and the list of what happened at it.
use Rattle.std.specs.Prelude.{◌≡◌, ◌<◌, ℕ, List, Option, Some, None, IsSome, true, length}
use Rattle.dch_types.specs.declared.channel.Dir.TheVariants.{Down}
use Rattle.dch_types.specs.declared.config.Config.{Config}
use Rattle.dch_types.specs.Timing.{has_set}
use Rattle.dch_accept.specs.Blocks.{Held}
use Rattle.dch_accept.specs.Plans.{Planned}
use Rattle.dch_layer2.specs.Bearings.{channel_of}
use Rattle.dch_layer2.specs.Reading.{Bad, Nothing, Read, Reading}
use Rattle.dch_layer2.specs.Standing.{Represents as StandsFor}
use Rattle.dch_node.specs.Lines.{Line}
use Rattle.dch_node.specs.Standing.{HasHistory, HasLongerHistory, TakesStep}
use Rattle.dch_node.specs.Values.{Output}
use Rattle.dch_rnc.specs.declared.event.RncEvent.{RncEvent}
use Rattle.dch_rnc.specs.declared.event.RncEvent.TheVariants.{Unit as Offered, Block, Iub, Tick as Ticks, Change as Changes}
use Rattle.dch_rnc.specs.Opened.{CanChange, HasNext, IsNodeOf}
use Rattle.dch_rnc.specs.State.{Change, Event, OfferedUnit, BlockedCombination, IubFrame, Tick, State, opened_state}
use Rattle.dch_rnc.specs.Steps.{Steps}
use Rattle.dch_rnc.specs.Values.{Node, iub_shown, taken_shown}

-- what happens, as plain lists, in the configuration that is active after it
abbrev pub event_of : Planned → RncEvent → Event
event_of planned (Offered b octets bits) = OfferedUnit b octets.now bits.now
event_of planned (Block c on) = BlockedCombination c on
event_of planned (Iub set frame) = IubFrame set frame.now
event_of planned Ticks = Tick
event_of planned Changes = Change planned

-- bearer b is there, and has a downlink channel
pub record SendsDown (config : Config) (b : ℕ) : Type 0 where
  pub there : b < length config.bearers
  pub sends : IsSome (channel_of config Down b)

-- an event that may come: its bearer sends in the downlink, its combination is one of the downlink, its set exists in
-- the uplink
abbrev pub MayCome : Planned → RncEvent → Type 0
MayCome planned (Offered b octets bits) = SendsDown planned.config b
MayCome planned (Block c on) = c < length planned.config.downlink.side.combinations
MayCome planned (Iub set frame) = has_set planned.config.uplink.side set ≡ true
MayCome planned Ticks = Unit {0}
MayCome planned Changes = Unit {0}

-- the network controller is open for the configuration that is active: before a change that is another one, which this
-- one can follow
abbrev pub IsReadyFor : Planned → RncEvent → Node → Type 0
IsReadyFor planned (Offered b octets bits) node = IsNodeOf planned node
IsReadyFor planned (Block c on) node = IsNodeOf planned node
IsReadyFor planned (Iub set frame) node = IsNodeOf planned node
IsReadyFor planned Ticks node = IsNodeOf planned node
IsReadyFor planned Changes node = CanChange planned node

-- the configuration that is active before an event
abbrev pub IsActiveBefore : Planned → RncEvent → Planned → Node → Type 0
IsActiveBefore planned (Offered b octets bits) before node = before ≡ planned
IsActiveBefore planned (Block c on) before node = before ≡ planned
IsActiveBefore planned (Iub set frame) before node = before ≡ planned
IsActiveBefore planned Ticks before node = before ≡ planned
IsActiveBefore planned Changes before node = HasNext before planned node

-- the network controller still holds its parts for a second configuration, if it did; a change takes them
abbrev pub KeepsNext : Planned → RncEvent → Node → Node → Type 0
KeepsNext planned (Offered b octets bits) old new = (second : Planned) → HasNext planned second old
    → HasNext planned second new
KeepsNext planned (Block c on) old new = (second : Planned) → HasNext planned second old → HasNext planned second new
KeepsNext planned (Iub set frame) old new = (second : Planned) → HasNext planned second old → HasNext planned second new
KeepsNext planned Ticks old new = (second : Planned) → HasNext planned second old → HasNext planned second new
KeepsNext planned Changes old new = new.next ≡ None

-- the blocks of a reading
abbrev pub blocks_read : Reading → Option Held
blocks_read Nothing = None
blocks_read (Read held) = Some held
blocks_read (Bad frame) = None

-- a network controller that was opened for a configuration stands for a state in which that is active, but for what the
-- last step read; and for that too
pub record IsAt (planned : Planned) (state : State) (node : Node) : Type 0 where
  pub active : state.planned ≡ planned
  pub cfn : node.cfn ≡ state.cfn
  pub layer : StandsFor planned.config state.layer node.layer

pub record Represents (planned : Planned) (state : State) (node : Node) : Type 0 where
  pub at : IsAt planned state node
  pub readings : (i : ℕ) → i < length planned.config.uplink.side.channels → taken_shown node i
      ≡ blocks_read (state.readings i)

-- it shows the Iub frames that the last step sent
pub record Shows (output : Output) (node : Node) : Type 0 where
  pub iub : (s : ℕ) → s < 8 → iub_shown node s ≡ output.iub s

-- nothing is shown as sent or read
pub record NothingShown (node : Node) : Type 0 where
  pub iub : (s : ℕ) → s < 8 → iub_shown node s ≡ None
  pub read : node.read ≡ None

-- a step was taken from a state, and whoever is told is told of its lines
abbrev pub Stepped : Planned → State → Event → Node → (List Line → Type 0) → Type 0
Stepped planned old event node Says = TakesStep Steps (Represents planned) Shows old event node Says

-- a network controller stands for what happened since it was opened for a configuration, with the lines of all of them;
-- this one is active now
abbrev pub RepresentsHistory : Planned → Planned → ℕ → List Event → List Line → Node → Type 0
RepresentsHistory began planned first events lines node =
    HasHistory Steps (Represents planned) Shows (opened_state began first) events lines node

-- one more event, with the lines of which whoever is told is told
abbrev pub ExtendsHistory : Planned → Planned → ℕ → List Event → List Line → Event → Node → (List Line → Type 0)
    → Type 0
ExtendsHistory began planned first events lines event node Says =
    HasLongerHistory Steps (Represents planned) Shows (opened_state began first) events lines event node Says
