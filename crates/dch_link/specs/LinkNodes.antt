-- Three nodes that run together, and what they stand for.
use Rattle.std.specs.Prelude.{◌≡◌, ◌<◌, ◌%◌, ℕ, List, true, length}
use Rattle.dch_types.specs.declared.channel.Dir.{Dir}
use Rattle.dch_types.specs.declared.channel.Dir.TheVariants.{Up, Down}
use Rattle.dch_types.specs.Parts.{side_of}
use Rattle.dch_types.specs.Timing.{has_set}
use Rattle.dch_accept.specs.Plans.{Planned}
use Rattle.dch_node.specs.Lines.{Line}
use Rattle.dch_damage.specs.Damage.{Flip, Lose, LoseIub, Spoil}
use Rattle.dch_damage.specs.Opened.{IsDamageOf}
use Rattle.dch_damage.specs.Waiting.{Waits}
use Rattle.dch_ue.specs.Opened.{HasNext as UeHasNext, IsNodeOf as IsUeOf}
use Rattle.dch_ue.specs.Standing.{Represents as UeStands, RepresentsHistory as UeHistory, SendsUp, Shows as UeShows}
use Rattle.dch_ue.specs.State.{opened_state as opened_ue}
use Rattle.dch_ue.specs.Steps.{Steps as UeSteps}
use Rattle.dch_nodeb.specs.Opened.{HasNext as NodeBHasNext, IsNodeOf as IsNodeBOf}
use Rattle.dch_nodeb.specs.Standing.{Represents as NodeBStands, RepresentsHistory as NodeBHistory, Shows as NodeBShows}
use Rattle.dch_nodeb.specs.State.{opened_state as opened_node_b}
use Rattle.dch_nodeb.specs.Steps.{Steps as NodeBSteps}
use Rattle.dch_rnc.specs.Opened.{HasNext as RncHasNext, IsNodeOf as IsRncOf}
use Rattle.dch_rnc.specs.Standing.{Represents as RncStands, RepresentsHistory as RncHistory, SendsDown, Shows as RncShows}
use Rattle.dch_rnc.specs.State.{opened_state as opened_rnc}
use Rattle.dch_rnc.specs.Steps.{Steps as RncSteps}
use Rattle.dch_ue.specs.Values.{Node as Ue}
use Rattle.dch_nodeb.specs.Values.{Node as NodeB}
use Rattle.dch_rnc.specs.Values.{Node as Rnc}
use Rattle.dch_link.specs.Changing.{Changes}
use Rattle.dch_link.specs.Courses.{IsCourse}
use Rattle.dch_link.specs.Events.{BlockedCombination, Damages, Event, OfferedUnit}
use Rattle.dch_link.specs.Fitting.{Fits}
use Rattle.dch_link.specs.Link.{LinkState}
use Rattle.dch_link.specs.Values.{Nodes}
use Rattle.dch_link.specs.declared.event.LinkEvent.{LinkEvent}
use Rattle.dch_link.specs.declared.event.LinkEvent.TheVariants.{Unit as Offered, Block, Flip as Flips, Lose as Loses, LoseIub as LosesIub, Spoil as Spoils}

-- what happens, as plain lists
abbrev pub event_of : LinkEvent → Event
event_of (Offered dir b octets bits) = OfferedUnit dir b octets.now bits.now
event_of (Block dir c on) = BlockedCombination dir c on
event_of (Flips dir tfci place) = Damages (Flip dir tfci place)
event_of (Loses dir) = Damages (Lose dir)
event_of (LosesIub dir set) = Damages (LoseIub dir set)
event_of (Spoils dir set octet mask) = Damages (Spoil dir set octet mask)

-- a bearer is there, and has a channel in a direction
abbrev pub SendsTo : Planned → Dir → ℕ → Type 0
SendsTo planned Up b = SendsUp planned.config b
SendsTo planned Down b = SendsDown planned.config b

-- an event that may come: its bearer sends in its direction, and its combination or set is one of its direction
abbrev pub MayCome : Planned → LinkEvent → Type 0
MayCome planned (Offered dir b octets bits) = SendsTo planned dir b
MayCome planned (Block dir c on) = c < length (side_of planned.config dir).combinations
MayCome planned (Flips dir tfci place) = Unit {0}
MayCome planned (Loses dir) = Unit {0}
MayCome planned (LosesIub dir set) = has_set (side_of planned.config dir) set ≡ true
MayCome planned (Spoils dir set octet mask) = has_set (side_of planned.config dir) set ≡ true

-- nodes that were opened for a configuration and a first CFN, and in which one is active now, stand for what happened,
-- and what they sent last fits
pub record Represents (began planned : Planned) (first : ℕ) (link : LinkState) (nodes : Nodes) : Type 0 where
  pub ue : IsCourse UeSteps (UeStands planned) UeShows (opened_ue began first) link.ue nodes.ue
  pub node_b : IsCourse NodeBSteps (NodeBStands planned) NodeBShows (opened_node_b began first) link.node_b nodes.node_b
  pub rnc : IsCourse RncSteps (RncStands planned) RncShows (opened_rnc began first) link.rnc nodes.rnc
  pub ue_sends : Fits planned Up Up link.ue.last
  pub node_b_sends : Fits planned Down Up link.node_b.last
  pub rnc_sends : Fits planned Down Down link.rnc.last
  pub damage : Waits link.damage nodes.damage

-- all parts are those of the configuration
pub record AreNodesOf (planned : Planned) (nodes : Nodes) : Type 0 where
  pub ue : IsUeOf planned nodes.ue
  pub node_b : IsNodeBOf planned nodes.node_b
  pub rnc : IsRncOf planned nodes.rnc
  pub damage : IsDamageOf planned nodes.damage

-- and they stand for something that happened
pub record IsLinkOf (planned : Planned) (nodes : Nodes) : Type 0 where
  pub opened : AreNodesOf planned nodes
  pub began : Planned
  pub first : ℕ
  pub link : LinkState
  pub stands : Represents began planned first link nodes

-- each node can go on with a second configuration, and there is room for the damage to its frames
pub record HasNext (first second : Planned) (nodes : Nodes) : Type 0 where
  pub ue : UeHasNext first second nodes.ue
  pub node_b : NodeBHasNext first second nodes.node_b
  pub rnc : RncHasNext first second nodes.rnc
  pub damage : IsDamageOf second nodes.damage

-- another configuration is active that this one can follow now, when the TTIs of all channels have ended
pub record CanChange (second : Planned) (nodes : Nodes) : Type 0 where
  pub before : Planned
  pub opened : IsLinkOf before nodes
  pub next : HasNext before second nodes
  pub whole : nodes.ue.cfn % 8 ≡ 0

-- something happened, and whoever is told is told of its lines
pub record LeadsTo (began planned : Planned) (first : ℕ) (Does : LinkState → List Line → Type 0) (nodes : Nodes)
    (Says : List Line → Type 0) : Type 0 where
  pub next : LinkState
  pub lines : List Line
  pub does : Does next lines
  pub stands : Represents began planned first next nodes
  pub tells : Says lines

-- a second configuration became active
pub record ChangesTo (began second : Planned) (first : ℕ) (link : LinkState) (nodes : Nodes) : Type 0 where
  pub next : LinkState
  pub changes : Changes second link next
  pub stands : Represents began second first next nodes

-- each node stands for just what happened at it
pub record HaveHistories (began planned : Planned) (first : ℕ) (link : LinkState) (ue : Ue) (node_b : NodeB)
    (rnc : Rnc) : Type 0 where
  pub ue_has : UeHistory began planned first link.ue.events link.ue.lines ue
  pub node_b_has : NodeBHistory began planned first link.node_b.events link.node_b.lines node_b
  pub rnc_has : RncHistory began planned first link.rnc.events link.rnc.lines rnc
