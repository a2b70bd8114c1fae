-- What the terminal and the network controller of a run hand up of a bearer.
use Rattle.std.specs.Prelude.{◌≡◌, ◌<◌, ◌++◌, ℕ, List, [], Some, if◌then◌else◌, length}
use Rattle.dch_bits.specs.declared.bit.Bit.{Bit}
use Rattle.dch_types.specs.declared.bearer.Mode.TheVariants.{Am, Tm, Um}
use Rattle.dch_types.specs.declared.channel.Dir.{Dir}
use Rattle.dch_types.specs.declared.channel.Dir.TheVariants.{Up, Down}
use Rattle.dch_types.specs.declared.channel.Side.{Side}
use Rattle.dch_types.specs.Parts.{channel_at}
use Rattle.dch_types.specs.Timing.{starts}
use Rattle.dch_config.specs.Good.{IsGood}
use Rattle.dch_accept.specs.Plans.{Planned}
use Rattle.dch_amlaw.specs.Pair.{At}
use Rattle.dch_layer2.specs.Bearings.{bearer_in, channel_of}
use Rattle.dch_layer2.specs.Layers.{Layer}
use Rattle.dch_linkcmd.specs.LinkLink.{LinkState}
use Rattle.dch_runlaw.specs.TmHistory.{IsTmCarried}
use Rattle.dch_runlaw.specs.UmHistory.{IsUmCarried}
use Rattle.dch_runlaw.specs.NodesCalls.{nodes_calls}
use Rattle.dch_runlaw.specs.Nodes.{Any, Event, IsAmHistory, IsAmHistoryOver, IsDownKnown, IsDownKnownOver, IsDownSome, IsDownSomeOver, IsUpKnown, IsUpKnownOver, IsUpSome, IsUpSomeOver, IsWholeAmHistory, Nodes, Runs, RunsInTwo, opened_nodes}

-- an acknowledged bearer of a good configuration, with its two channels
pub record IsAcknowledged (planned : Planned) (b up down : ℕ) : Type 0 where
  pub good : IsGood planned.config
  pub there : b < length planned.config.bearers
  pub mode : (bearer_in planned.config b).mode ≡ Am
  pub up_is : channel_of planned.config Up b ≡ Some up
  pub down_is : channel_of planned.config Down b ≡ Some down

-- an unacknowledged bearer of a good configuration, with its channel of a direction
pub record IsUnacknowledged (planned : Planned) (dir : Dir) (b i : ℕ) : Type 0 where
  pub good : IsGood planned.config
  pub there : b < length planned.config.bearers
  pub mode : (bearer_in planned.config b).mode ≡ Um
  pub channel : channel_of planned.config dir b ≡ Some i

-- a transparent bearer
pub record IsTransparent (planned : Planned) (dir : Dir) (b i : ℕ) : Type 0 where
  pub good : IsGood planned.config
  pub there : b < length planned.config.bearers
  pub mode : (bearer_in planned.config b).mode ≡ Tm
  pub channel : channel_of planned.config dir b ≡ Some i

-- two nodes are the terminal and the network controller of a run, with all lines that each has reported
pub record AreOf (link : LinkState) (nodes : Nodes) : Type 0 where
  pub ue : nodes.ue ≡ link.ue.state
  pub rnc : nodes.rnc ≡ link.rnc.state
  pub ue_lines : nodes.ue_lines ≡ link.ue.lines
  pub rnc_lines : nodes.rnc_lines ≡ link.rnc.lines

-- what happened at the two from opening on led to them, with what went over their channels
pub record AreReached (planned : Planned) (first : ℕ) (happened : List Event) (link : LinkState) : Type 0 where
  pub nodes : Nodes
  pub run : Runs Any (opened_nodes planned first first) happened nodes
  pub are : AreOf link nodes

-- what happened at the terminal and the network controller in two parts, with what went over their channels, led to the
-- two nodes; another configuration became active behind the first part
pub record AreReachedOver (planned second : Planned) (first : ℕ) (earlier later : List Event)
    (last link : LinkState) : Type 0 where
  pub nodes : Nodes
  pub run : RunsInTwo planned second Any Any first first earlier later nodes
  pub are_mid : AreOf last run.mid
  pub are : AreOf link nodes

-- a run of one part, or of two: what happened at the two nodes in each, and the state that the first of two parts led
-- to
pub data Parts : Type 0 where
  Alone : (planned : Planned) → (first : ℕ) → (happened : List Event) → Parts
  Both : (planned second : Planned) → (first : ℕ) → (earlier later : List Event) → (last : LinkState) → Parts

-- the configuration of the last part
abbrev pub active : Parts → Planned
active (Alone planned first happened) = planned
active (Both planned second first earlier later last) = second

-- what happened in one part or in two led to the terminal and the network controller of a run
abbrev pub AreReachedIn : Parts → LinkState → Type 0
AreReachedIn (Alone planned first happened) link = AreReached planned first happened link
AreReachedIn (Both planned second first earlier later last) link =
    AreReachedOver planned second first earlier later last link

-- which are these
abbrev pub nodes_reached : (parts : Parts) (link : LinkState) → AreReachedIn parts link → Nodes
nodes_reached (Alone planned first happened) link reached = reached.nodes
nodes_reached (Both planned second first earlier later last) link reached = reached.nodes

-- the calls that the two ends of bearer b got in a run of one part or of two
abbrev pub calls_reached : ℕ → (parts : Parts) (link : LinkState) → AreReachedIn parts link → List At
calls_reached b (Alone planned first happened) link reached =
    nodes_calls planned.config b Any (opened_nodes planned first first) happened reached.nodes reached.run
calls_reached b (Both planned second first earlier later last) link reached =
    nodes_calls planned.config b Any (opened_nodes planned first first) earlier reached.run.mid reached.run.before ++
    nodes_calls second.config b Any reached.run.next later reached.nodes reached.run.behind

-- the calls that the two ends of an acknowledged bearer got in a run are, but for losses on the way, the events of a
-- history of the two ends
pub record HasHistory (planned : Planned) (first b : ℕ) (happened : List Event) (link : LinkState) : Type 0 where
  pub reached : AreReached planned first happened link
  pub history : IsAmHistory planned b (calls_reached b (Alone planned first happened) link reached) reached.nodes

-- the same over two parts of a run: behind the first part the history goes on from its last state, when all that was in
-- flight is lost
pub record HasHistoryOver (planned second : Planned) (first b : ℕ) (earlier later : List Event)
    (last link : LinkState) : Type 0 where
  pub reached : AreReachedOver planned second first earlier later last link
  pub history : IsAmHistoryOver second b (nodes_calls planned.config b Any (opened_nodes planned first first)
      earlier reached.run.mid reached.run.before) (nodes_calls second.config b Any reached.run.next later reached.nodes
      reached.run.behind) reached.run.mid reached.nodes

-- the blocks that a channel was given for a TTI that has not ended, before the radio frame of a CFN
abbrev pub on_way : Side → ℕ → Layer → ℕ → List (List Bit)
on_way side cfn layer i = if starts (channel_at side i).frames cfn then [] else (layer.given i).blocks

-- those of an uplink channel, and of a downlink channel
abbrev pub up_way : Planned → ℕ → LinkState → List (List Bit)
up_way planned up link = on_way planned.config.uplink.side link.rnc.state.cfn link.ue.state.layer up

abbrev pub down_way : Planned → ℕ → LinkState → List (List Bit)
down_way planned down link = on_way planned.config.downlink.side link.rnc.state.cfn link.rnc.state.layer down

-- its calls are a history in which nothing is lost: of what was given all was taken but the blocks of TTIs that have
-- not ended
pub record HasWholeHistory (parts : Parts) (b up down : ℕ) (link : LinkState) : Type 0 where
  pub reached : AreReachedIn parts link
  pub up_taken : ((nodes_reached parts link reached).up up).given ≡ ((nodes_reached parts link reached).up up).taken
      ++ up_way (active parts) up link
  pub down_taken : ((nodes_reached parts link reached).down down).given
      ≡ ((nodes_reached parts link reached).down down).taken ++ down_way (active parts) down link
  pub history : IsWholeAmHistory (active parts) b up down (calls_reached b parts link reached)
      (nodes_reached parts link reached)

-- what is known of an unacknowledged bearer's uplink, and of its downlink
pub record HasKnownUp (planned : Planned) (first b up : ℕ) (happened : List Event) (link : LinkState) : Type 0 where
  pub reached : AreReached planned first happened link
  pub known : IsUpKnown planned b up reached.nodes

pub record HasKnownDown (planned : Planned) (first b down : ℕ) (happened : List Event) (link : LinkState) : Type 0 where
  pub reached : AreReached planned first happened link
  pub known : IsDownKnown planned b down reached.nodes

-- and where a second configuration became active behind a first part, whose last state is known, too
pub record HasKnownUpOver (planned second : Planned) (first b up up_later : ℕ) (earlier later : List Event)
    (last link : LinkState) : Type 0 where
  pub reached : AreReachedOver planned second first earlier later last link
  pub known : IsUpKnownOver planned second b up up_later reached.run.mid reached.nodes

pub record HasKnownDownOver (planned second : Planned) (first b down down_later : ℕ) (earlier later : List Event)
    (last link : LinkState) : Type 0 where
  pub reached : AreReachedOver planned second first earlier later last link
  pub known : IsDownKnownOver planned second b down down_later reached.run.mid reached.nodes

-- what came of a transparent bearer's uplink, and of its downlink
pub record HasSomeUp (planned : Planned) (first b up : ℕ) (happened : List Event) (link : LinkState) : Type 0 where
  pub reached : AreReached planned first happened link
  pub some : IsUpSome planned b up reached.nodes

pub record HasSomeDown (planned : Planned) (first b down : ℕ) (happened : List Event) (link : LinkState) : Type 0 where
  pub reached : AreReached planned first happened link
  pub some : IsDownSome planned b down reached.nodes

-- and where a second configuration became active, too
pub record HasSomeUpOver (planned second : Planned) (first b up up_later : ℕ) (earlier later : List Event)
    (last link : LinkState) : Type 0 where
  pub reached : AreReachedOver planned second first earlier later last link
  pub some : IsUpSomeOver planned second b up up_later reached.run.mid reached.nodes

pub record HasSomeDownOver (planned second : Planned) (first b down down_later : ℕ) (earlier later : List Event)
    (last link : LinkState) : Type 0 where
  pub reached : AreReachedOver planned second first earlier later last link
  pub some : IsDownSomeOver planned second b down down_later reached.run.mid reached.nodes

-- handed up of an unacknowledged bearer are the accepted units, in order, whose length indicator was sent in TTIs that
-- have ended
abbrev pub HasUmUp : Planned → ℕ → ℕ → LinkState → Type 0
HasUmUp planned b up link = IsUmCarried planned.config Up b up link.ue.state.layer link.rnc.lines
    (up_way planned up link)

abbrev pub HasUmDown : Planned → ℕ → ℕ → LinkState → Type 0
HasUmDown planned b down link = IsUmCarried planned.config Down b down link.rnc.state.layer link.ue.lines
    (down_way planned down link)

-- and of a transparent one those whose block was
abbrev pub HasTmUp : Planned → ℕ → ℕ → LinkState → Type 0
HasTmUp planned b up link = IsTmCarried planned.config Up b up link.ue.state.layer link.rnc.lines
    (up_way planned up link)

abbrev pub HasTmDown : Planned → ℕ → ℕ → LinkState → Type 0
HasTmDown planned b down link = IsTmCarried planned.config Down b down link.rnc.state.layer link.ue.lines
    (down_way planned down link)
