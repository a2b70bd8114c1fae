-- The terminal and the network controller, in any interleaving, and what went over the channels between them, in one
-- part or in two: before and after another configuration becomes active at both.
use Rattle.std.specs.Prelude.{◌≡◌, ◌++◌, ℕ, List, [], ◌∷◌, if◌then◌else◌}
use Rattle.dch_bits.specs.declared.bit.Bit.{Bit}
use Rattle.dch_types.specs.declared.channel.Dir.TheVariants.{Up, Down}
use Rattle.dch_types.specs.declared.channel.Side.{Side}
use Rattle.dch_types.specs.Parts.{channel_at}
use Rattle.dch_types.specs.Timing.{starts}
use Rattle.dch_accept.specs.Plans.{Planned}
use Rattle.dch_node.specs.Lines.{Line}
use Rattle.dch_node.specs.Values.{Output}
use Rattle.dch_amlaw.specs.Pair.{At as Call}
use Rattle.dch_layer2.specs.Layers.{Layer}
use Rattle.dch_linkcmd.specs.UeState.{Event as UeEvent, OfferedUnit as UeOffered, BlockedCombination as UeBlocked, Change as UeChange, DownlinkFrame, Tick as UeTicks, State as UeState, opened_state as opened_ue}
use Rattle.dch_linkcmd.specs.UeSteps.{Steps as UeSteps}
use Rattle.dch_linkcmd.specs.RncState.{Event as RncEvent, OfferedUnit as RncOffered, BlockedCombination as RncBlocked, Change as RncChange, IubFrame, Tick as RncTicks, State as RncState, opened_state as opened_rnc}
use Rattle.dch_linkcmd.specs.RncSteps.{Steps as RncSteps}
use Rattle.dch_linkcmd.specs.Checks.{good_in}
use Rattle.dch_linkcmd.specs.Within.{RncWithin, UeWithin}
use Rattle.dch_runlaw.specs.Worlds.{IsFaithful, IsFront, Log, World, no_log, turned}
use Rattle.dch_runlaw.specs.History.{IsHistory, IsHistoryOver, IsWholeHistory}
use Rattle.dch_runlaw.specs.UmHistory.{IsKnownHistory, pdus_in}
use Rattle.dch_runlaw.specs.TmHistory.{IsTmSome, units_in}

-- the two nodes, all lines that each has reported, and for each channel the blocks that were given to it and those that
-- were taken of it
pub record Nodes : Type 0 where
  pub ue : UeState
  pub rnc : RncState
  pub ue_lines : List Line
  pub rnc_lines : List Line
  pub up : ℕ → Log
  pub down : ℕ → Log

-- at opening. Each node has a first CFN of its own
abbrev pub opened_nodes : Planned → ℕ → ℕ → Nodes
opened_nodes planned ue_first rnc_first = record {
  ue = opened_ue planned ue_first;
  rnc = opened_rnc planned rnc_first;
  ue_lines = [];
  rnc_lines = [];
  up = λ i. no_log;
  down = λ i. no_log;
}

-- an event at one of the two
pub data Event : Type 0 where
  AtUe : (event : UeEvent) → Event
  AtRnc : (event : RncEvent) → Event

-- the blocks that a channel is given for a TTI that starts at a CFN
abbrev pub given_at : Side → ℕ → Layer → ℕ → List (List Bit)
given_at side cfn layer i = if starts (channel_at side i).frames cfn then (layer.given i).blocks else []

-- and in a step of a node
abbrev pub given_by_ue : UeState → UeEvent → UeState → ℕ → List (List Bit)
given_by_ue old UeTicks new i = given_at old.planned.config.uplink.side old.cfn new.layer i
given_by_ue old (UeOffered b octets bits) new i = []
given_by_ue old (UeBlocked c on) new i = []
given_by_ue old (DownlinkFrame frame) new i = []
given_by_ue old (UeChange planned) new i = []

abbrev pub given_by_rnc : RncState → RncEvent → RncState → ℕ → List (List Bit)
given_by_rnc old RncTicks new i = given_at old.planned.config.downlink.side old.cfn new.layer i
given_by_rnc old (RncOffered b octets bits) new i = []
given_by_rnc old (RncBlocked c on) new i = []
given_by_rnc old (IubFrame set octets) new i = []
given_by_rnc old (RncChange planned) new i = []

-- a step of the terminal within a part, in the configuration that is active: the network controller stays, uplink
-- channels are given blocks, and blocks are taken of downlink channels
pub record StepsUe (old : Nodes) (event : UeEvent) (new : Nodes) : Type 0 where
  pub within : UeWithin event
  pub output : Output
  pub step : UeSteps old.ue event new.ue output
  pub reported : new.ue_lines ≡ old.ue_lines ++ output.lines
  pub rnc : new.rnc ≡ old.rnc
  pub rnc_lines : new.rnc_lines ≡ old.rnc_lines
  pub up : (i : ℕ) → new.up i ≡ record {
    given = (old.up i).given
        ++ given_by_ue old.ue event new.ue i;
    taken = (old.up i).taken;
  }
  pub down : (i : ℕ) → new.down i ≡ record {
    given = (old.down i).given;
    taken = (old.down i).taken
        ++ good_in (new.ue.readings i);
  }

-- a step of the network controller within a part, in the configuration that is active: the terminal stays, downlink
-- channels are given blocks, and blocks are taken of uplink channels
pub record StepsRnc (old : Nodes) (event : RncEvent) (new : Nodes) : Type 0 where
  pub within : RncWithin event
  pub output : Output
  pub step : RncSteps old.rnc event new.rnc output
  pub reported : new.rnc_lines ≡ old.rnc_lines ++ output.lines
  pub ue : new.ue ≡ old.ue
  pub ue_lines : new.ue_lines ≡ old.ue_lines
  pub down : (i : ℕ) → new.down i ≡ record {
    given = (old.down i).given ++ given_by_rnc old.rnc event new.rnc i;
    taken = (old.down i).taken;
  }
  pub up : (i : ℕ) → new.up i ≡ record {
    given = (old.up i).given;
    taken = (old.up i).taken
        ++ good_in (new.rnc.readings i);
  }

abbrev pub Happens : Nodes → Event → Nodes → Type 0
Happens old (AtUe event) new = StepsUe old event new
Happens old (AtRnc event) new = StepsRnc old event new

-- an event after which something holds, and more behind it
pub record HappensFirst (Holds Rest : Nodes → Type 0) (old : Nodes) (event : Event) : Type 0 where
  pub next : Nodes
  pub first : Happens old event next
  pub holds : Holds next
  pub later : Rest next

-- a list of events, after each of which it holds
abbrev pub Runs : (Nodes → Type 0) → Nodes → List Event → Nodes → Type 0
Runs Holds old [] new = new ≡ old
Runs Holds old (event ∷ events) new = HappensFirst Holds (λ next. Runs Holds next events new) old event

-- another configuration becomes active at both nodes, at one after the other with no other event of them between.
-- Neither sees the other's change, so no matter which is first. In it nothing has gone over any channel yet
pub record Changes (second : Planned) (old new : Nodes) : Type 0 where
  pub ue_output : Output
  pub rnc_output : Output
  pub ue : UeSteps old.ue (UeChange second) new.ue ue_output
  pub rnc : RncSteps old.rnc (RncChange second) new.rnc rnc_output
  pub ue_reported : new.ue_lines ≡ old.ue_lines ++ ue_output.lines
  pub rnc_reported : new.rnc_lines ≡ old.rnc_lines ++ rnc_output.lines
  pub up : (i : ℕ) → new.up i ≡ no_log
  pub down : (i : ℕ) → new.down i ≡ no_log

-- events in two parts, from opening: in each part something holds after each event, and the changes are between them
pub record RunsInTwo (first second : Planned) (Before Behind : Nodes → Type 0) (ue_first rnc_first : ℕ)
    (earlier later : List Event) (new : Nodes) : Type 0 where
  pub mid : Nodes
  pub next : Nodes
  pub before : Runs Before (opened_nodes first ue_first rnc_first) earlier mid
  pub changes : Changes second mid next
  pub behind : Runs Behind next later new

-- any two nodes
abbrev pub Any : Nodes → Type 0
Any nodes = Unit {0}

-- the good blocks that were taken of an uplink channel and of a downlink channel are some of those that were given, in
-- order
pub record AreFaithful (up down : ℕ) (nodes : Nodes) : Type 0 where
  pub up_is : IsFaithful (nodes.up up)
  pub down_is : IsFaithful (nodes.down down)

-- nothing was lost on them so far: what was taken begins what was given
pub record AreWhole (up down : ℕ) (nodes : Nodes) : Type 0 where
  pub up_is : IsFront (nodes.up up).taken (nodes.up up).given
  pub down_is : IsFront (nodes.down down).taken (nodes.down down).given

-- nothing is in flight on them: all that was given was taken
pub record AreAllTaken (up down : ℕ) (nodes : Nodes) : Type 0 where
  pub up_is : (nodes.up up).given ≡ (nodes.up up).taken
  pub down_is : (nodes.down down).given ≡ (nodes.down down).taken

-- the two layers 2
abbrev pub world_of : Nodes → World
world_of nodes = record {
  near = record { layer = nodes.ue.layer; said = nodes.ue_lines };
  far = record { layer = nodes.rnc.layer; said = nodes.rnc_lines };
  out = nodes.up;
  back = nodes.down;
}

-- these calls, with losses on the way between them, are a history of an acknowledged bearer's pair of which the two
-- nodes have the ends, and it is safe
abbrev pub IsAmHistory : Planned → ℕ → List Call → Nodes → Type 0
IsAmHistory planned b calls nodes = IsHistory planned.config Up Down b calls (world_of nodes)

-- and over two parts, the first of which led to two nodes: a history of its calls that led there, the loss of all that
-- was in flight, and the calls of the second part
abbrev pub IsAmHistoryOver : Planned → ℕ → List Call → List Call → Nodes → Nodes → Type 0
IsAmHistoryOver second b before behind mid nodes = IsHistoryOver second.config Up Down b before behind (world_of mid)
    (world_of nodes)

-- and nothing is lost: the calls alone are the history
abbrev pub IsWholeAmHistory : Planned → ℕ → ℕ → ℕ → List Call → Nodes → Type 0
IsWholeAmHistory planned b up down calls nodes = IsWholeHistory planned.config Up Down b up down calls (world_of nodes)

-- what is known of an unacknowledged bearer's uplink, and of its downlink
abbrev pub IsUpKnown : Planned → ℕ → ℕ → Nodes → Type 0
IsUpKnown planned b up nodes = IsKnownHistory planned.config Up b up [] [] (world_of nodes)

abbrev pub IsDownKnown : Planned → ℕ → ℕ → Nodes → Type 0
IsDownKnown planned b down nodes = IsKnownHistory planned.config Down b down [] [] (turned (world_of nodes))

-- and over two parts, where it had one channel in the first part and has another one
abbrev pub IsUpKnownOver : Planned → Planned → ℕ → ℕ → ℕ → Nodes → Nodes → Type 0
IsUpKnownOver first second b up up_later mid nodes =
    IsKnownHistory second.config Up b up_later (pdus_in first.config Up b up (mid.up up).given)
    (pdus_in first.config Up b up (mid.up up).taken) (world_of nodes)

abbrev pub IsDownKnownOver : Planned → Planned → ℕ → ℕ → ℕ → Nodes → Nodes → Type 0
IsDownKnownOver first second b down down_later mid nodes =
    IsKnownHistory second.config Down b down_later (pdus_in first.config Down b down (mid.down down).given)
    (pdus_in first.config Down b down (mid.down down).taken) (turned (world_of nodes))

-- what came of a transparent bearer's uplink, and of its downlink, is handed up, and some of what was accepted
abbrev pub IsUpSome : Planned → ℕ → ℕ → Nodes → Type 0
IsUpSome planned b up nodes = IsTmSome planned.config Up b up [] [] (world_of nodes)

abbrev pub IsDownSome : Planned → ℕ → ℕ → Nodes → Type 0
IsDownSome planned b down nodes = IsTmSome planned.config Down b down [] [] (turned (world_of nodes))

-- and over two parts
abbrev pub IsUpSomeOver : Planned → Planned → ℕ → ℕ → ℕ → Nodes → Nodes → Type 0
IsUpSomeOver first second b up up_later mid nodes =
    IsTmSome second.config Up b up_later (units_in first.config Up b up (mid.up up).given)
    (units_in first.config Up b up (mid.up up).taken) (world_of nodes)

abbrev pub IsDownSomeOver : Planned → Planned → ℕ → ℕ → ℕ → Nodes → Nodes → Type 0
IsDownSomeOver first second b down down_later mid nodes =
    IsTmSome second.config Down b down_later (units_in first.config Down b down (mid.down down).given)
    (units_in first.config Down b down (mid.down down).taken) (turned (world_of nodes))
