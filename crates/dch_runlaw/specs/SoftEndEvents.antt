-- What happens at the terminal and the network controller in a run in soft handover, event by event, and what went over
-- their channels.
use Rattle.std.specs.Prelude.{◌≡◌, ◌++◌, ℕ, List, [], ◌∷◌, Option, Some, None, map}
use Rattle.std.proofs.Common.{inl, inr}
use Rattle.dch_types.specs.declared.channel.Dir.TheVariants.{Up, Down}
use Rattle.dch_accept.specs.Plans.{Planned}
use Rattle.dch_node.specs.Lines.{Line}
use Rattle.dch_layer2.specs.UnitLines.{unit_lines}
use Rattle.dch_linkcmd.specs.UeState.{BlockedCombination as UeBlocked, DownlinkFrame, Event as UeEvent, OfferedUnit as UeOffered, State as UeState, Tick as UeTicks}
use Rattle.dch_linkcmd.specs.RncState.{BlockedCombination as RncBlocked, Event as RncEvent, IubFrame as IubFrameUp, OfferedUnit as RncOffered, State as RncState, Tick as RncTicks}
use Rattle.dch_linkcmd.specs.Checks.{good_in}
use Rattle.dch_linkcmd.specs.Courses.{Course}
use Rattle.dch_linkcmd.specs.SoftEvents.{BlockedCombination, Damages, Event, OfferedUnit}
use Rattle.dch_linkcmd.specs.LinkSoft.{SoftState, over, uplink_of}
use Rattle.dch_linkcmd.specs.SoftStages.{AtStage, GivesFrame, WhereOver}
use Rattle.dch_linkcmd.specs.soft_stage.Stage.{Stage}
use Rattle.dch_linkcmd.specs.soft_stage.Stage.TheVariants.{RncTick, IubDown, RadioDown, UeTick, RadioUp, IubUp, Combine}
use Rattle.dch_runlaw.specs.Directions.{lines_on}
use Rattle.dch_runlaw.specs.History.{pair_after}
use Rattle.dch_runlaw.specs.NodesCalls.{nodes_calls}
use Rattle.dch_runlaw.specs.Nodes.{Any, AtRnc, AtUe, Event as NodesEvent, IsAmHistory, Nodes, Runs as NodesRun, given_by_rnc, given_by_ue, opened_nodes}
use Rattle.dch_runlaw.specs.SoftRuns.{Between, Move, Next, Point, Runs, Steps}

-- an event at the terminal or at the network controller, and what is known of the node after it
pub data EndEvent : Type 0 where
  EventAtUe : (event : UeEvent) → (ue : Course UeState UeEvent) → EndEvent
  EventAtRnc : (event : RncEvent) → (rnc : Course RncState RncEvent) → EndEvent

-- what happens between two radio frames is an event of one of the two, but for damage
abbrev pub between : Event → SoftState → List EndEvent
between (OfferedUnit Up bearer octets bits) new = EventAtUe (UeOffered bearer octets bits) new.ue ∷ []
between (OfferedUnit Down bearer octets bits) new = EventAtRnc (RncOffered bearer octets bits) new.rnc ∷ []
between (BlockedCombination Up combination on) new = EventAtUe (UeBlocked combination on) new.ue ∷ []
between (BlockedCombination Down combination on) new = EventAtRnc (RncBlocked combination on) new.rnc ∷ []
between (Damages leg damage) new = []

-- the network controller takes the combined frame of a set whose TTI is over, if there is one
abbrev pub combined : (started : Option ℕ) → (set : ℕ) → (old new : SoftState) → (lines : List Line)
    → WhereOver started (λ cfn. GivesFrame cfn set) old new lines → List EndEvent
combined None set old new lines gives = []
combined (Some cfn) set old new lines (inl none) = []
combined (Some cfn) set old new lines (inr frame) = EventAtRnc (IubFrameUp set frame.octets) new.rnc ∷ []

-- in a stage of a radio frame
abbrev pub in_stage : (stage : Stage) → (old new : SoftState) → (lines : List Line) → AtStage stage old new lines
    → List EndEvent
in_stage RncTick old new lines passes = EventAtRnc RncTicks new.rnc ∷ []
in_stage (IubDown leg set) old new lines passes = []
in_stage (RadioDown leg) old new lines passes = []
in_stage UeTick old new lines passes = EventAtUe (DownlinkFrame passes.hears.heard)
    passes.mid.ue ∷ EventAtUe UeTicks new.ue ∷ []
in_stage (RadioUp leg) old new lines passes = []
in_stage (IubUp set leg) old new lines passes = []
in_stage (Combine set) old new lines passes = combined (over (uplink_of old) set old.cfn) set old new lines passes

abbrev pub in_step : (move : Move) → (old new : Point) → (lines : List Line) → Steps old move new lines → List EndEvent
in_step (Between event) old new lines step = between event step.soft
in_step Next old new lines step = in_stage old.stage old.soft step.soft lines step.passes

-- the events at the terminal and the network controller in a run in soft handover, in order
abbrev pub end_events : (moves : List Move) → (old new : Point) → (lines : List Line) → Runs old moves new lines
    → List EndEvent
end_events [] old new lines run = []
end_events (move ∷ moves) old new lines run = in_step move old run.next run.own run.step
    ++ end_events moves run.next new run.rest run.later

-- the events alone
abbrev pub event_of : EndEvent → NodesEvent
event_of (EventAtUe event ue) = AtUe event
event_of (EventAtRnc event rnc) = AtRnc event

abbrev pub events_of : List EndEvent → List NodesEvent
events_of happened = map event_of happened

-- the terminal and the network controller after an event: a channel was given what its near end gave to it, and what
-- its far end read as good was taken of it
abbrev pub after : Nodes → EndEvent → Nodes
after old (EventAtUe event ue) = record old {
  ue = ue.state;
  ue_lines = ue.lines;
  up = λ i. record { given = (old.up i).given ++ given_by_ue old.ue event ue.state i; taken = (old.up i).taken };
  down = λ i. record { given = (old.down i).given; taken = (old.down i).taken ++ good_in (ue.state.readings i) };
}
after old (EventAtRnc event rnc) = record old {
  rnc = rnc.state;
  rnc_lines = rnc.lines;
  up = λ i. record { given = (old.up i).given; taken = (old.up i).taken ++ good_in (rnc.state.readings i) };
  down = λ i. record {
    given = (old.down i).given ++ given_by_rnc old.rnc event rnc.state i;
    taken = (old.down i).taken;
  };
}

abbrev pub after_all : Nodes → List EndEvent → Nodes
after_all nodes [] = nodes
after_all nodes (happening ∷ later) = after_all (after nodes happening) later

-- something holds after each of these
abbrev pub AfterEach : (Nodes → Type 0) → Nodes → List EndEvent → Type 0
AfterEach Holds nodes [] = Unit {0}
AfterEach Holds nodes (happening ∷ later) = Holds (after nodes happening)
    × AfterEach Holds (after nodes happening) later

-- two nodes are the terminal and the network controller of a soft handover, with all lines that each has reported
pub record AreOf (soft : SoftState) (nodes : Nodes) : Type 0 where
  pub ue : nodes.ue ≡ soft.ue.state
  pub rnc : nodes.rnc ≡ soft.rnc.state
  pub ue_lines : nodes.ue_lines ≡ soft.ue.lines
  pub rnc_lines : nodes.rnc_lines ≡ soft.rnc.lines

-- the events at one of the two
abbrev pub ue_events : List EndEvent → List UeEvent
ue_events [] = []
ue_events (EventAtUe event ue ∷ later) = event ∷ ue_events later
ue_events (EventAtRnc event rnc ∷ later) = ue_events later

abbrev pub rnc_events : List EndEvent → List RncEvent
rnc_events [] = []
rnc_events (EventAtUe event ue ∷ later) = rnc_events later
rnc_events (EventAtRnc event rnc ∷ later) = event ∷ rnc_events later

-- what happened from opening on is all that happened at the terminal and the network controller of a soft handover, and
-- a list of events at two nodes that leads to these two
pub record IsListOf (planned : Planned) (first : ℕ) (happened : List EndEvent) (soft : SoftState) : Type 0 where
  pub ue : soft.ue.events ≡ ue_events happened
  pub rnc : soft.rnc.events ≡ rnc_events happened
  pub run : NodesRun Any (opened_nodes planned first first) (events_of happened)
      (after_all (opened_nodes planned first first) happened)
  pub are : AreOf soft (after_all (opened_nodes planned first first) happened)

-- with what went over their channels they stand in a history of an acknowledged bearer's pair, of which its calls are
-- the events but for losses on the way; and the lines of the run on PDUs and units of the bearer are just the units
-- that the history hands up at its ends
pub record HandsUp (planned : Planned) (first b : ℕ) (happened : List EndEvent) (soft : SoftState)
    (lines : List Line) : Type 0 where
  pub listed : IsListOf planned first happened soft
  pub history : IsAmHistory planned b (nodes_calls planned.config b Any (opened_nodes planned first first)
      (events_of happened) (after_all (opened_nodes planned first first) happened) listed.run)
      (after_all (opened_nodes planned first first) happened)
  pub up : lines_on Up b lines ≡ unit_lines Up b (pair_after planned.config Up Down b
      history.events).far.entity.receiver.reading.units
  pub down : lines_on Down b lines
      ≡ unit_lines Down b (pair_after planned.config Up Down b history.events).near.entity.receiver.reading.units
