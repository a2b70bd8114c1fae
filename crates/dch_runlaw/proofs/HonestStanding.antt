-- Where the three nodes stand before a radio frame, with what went over two channels.
use Rattle.std.proofs.Common.{◌≡◌, ℕ, List, [], ◌∷◌, ◌++◌, ap, refl, subst}
use Rattle.dch_bits.specs.declared.bit.Bit.{Bit}
use Rattle.dch_types.specs.declared.config.Config.{Config}
use Rattle.dch_types.specs.Parts.{channel_at}
use Rattle.dch_accept.specs.Plans.{Planned}
use Rattle.dch_amlaw.specs.Pair.{At}
use Rattle.dch_node.specs.Lines.{Line}
use Rattle.dch_linkcmd.specs.UeState.{State as UeState}
use Rattle.dch_linkcmd.specs.RncState.{State as RncState}
use Rattle.dch_linkcmd.specs.LinkLink.{LinkState}
use Rattle.dch_runlaw.specs.Worlds.{Log}
use Rattle.dch_runlaw.specs.Nodes.{Any, Event, Nodes, Runs}
use Rattle.dch_runlaw.specs.NodesCalls.{event_calls, nodes_calls}
use Rattle.dch_runlaw.specs.HonestFits.{IsChannel}
use Rattle.dch_runlaw.proofs.HonestPhases.{Joins, Phase}
use Rattle.dch_runlaw.proofs.HonestStaying.{AreFor}

-- two channels, what fits of each, and what is wanted after each event
pub record Setting (planned : Planned) (up down : ℕ) : Type 1 where
  pub UpFits : List (List Bit) → List (List Bit) → Type 0
  pub UpHolds : List (List Bit) → List (List Bit) → Type 0
  pub DownFits : List (List Bit) → List (List Bit) → Type 0
  pub DownHolds : List (List Bit) → List (List Bit) → Type 0
  pub H : Nodes → Type 0
  pub up_joins : Joins UpFits UpHolds
  pub down_joins : Joins DownFits DownHolds
  pub build : (n : Nodes) → UpHolds (n.up up).taken (n.up up).given → DownHolds (n.down down).taken (n.down down).given → H n
  pub up_channel : IsChannel planned.config.uplink.side up
  pub down_channel : IsChannel planned.config.downlink.side down

abbrev pub up_frames : Planned → ℕ → ℕ
up_frames planned up = (channel_at planned.config.uplink.side up).frames

abbrev pub down_frames : Planned → ℕ → ℕ
down_frames planned down = (channel_at planned.config.downlink.side down).frames

-- the nodes stand before a radio frame, and these are the logs
pub record Stand (planned : Planned) (up down : ℕ) (g : Setting planned up down) (link : LinkState) : Type 0 where
  pub ul : ℕ → Log
  pub dl : ℕ → Log
  pub are : AreFor planned link
  pub ue_cfn : link.ue.state.cfn ≡ link.rnc.state.cfn
  pub node_b_cfn : link.node_b.state.cfn ≡ link.rnc.state.cfn
  pub up_phase : Phase g.UpFits (up_frames planned up) link.rnc.state.cfn (ul up) (link.ue.state.layer.given up).blocks
  pub down_phase : Phase g.DownFits (down_frames planned down) link.rnc.state.cfn (dl down) (link.rnc.state.layer.given down).blocks

abbrev pub nodes_at : UeState → RncState → List Line → List Line → (ℕ → Log) → (ℕ → Log) → Nodes
nodes_at ue rnc us rs ul dl = record { ue = ue; rnc = rnc; ue_lines = us; rnc_lines = rs; up = ul; down = dl }

abbrev pub nodes_of : (planned : Planned) (up down : ℕ) (g : Setting planned up down) (link : LinkState) → Stand planned up down g link → Nodes
nodes_of planned up down g link s = nodes_at link.ue.state link.rnc.state link.ue.lines link.rnc.lines s.ul s.dl

-- and these events at the terminal and the network controller lead there
pub record Onward (planned : Planned) (up down : ℕ) (g : Setting planned up down) (n : Nodes) (events : List Event) (link : LinkState) : Type 0 where
  pub stand : Stand planned up down g link
  pub run : Runs g.H n events (nodes_of planned up down g link stand)

pub runs-append : (H : Nodes → Type 0) (a b c : Nodes) (xs ys : List Event) → Runs H a xs b → Runs H b ys c → Runs H a (xs ++ ys) c
runs-append H a b c [] ys r t = subst (λ x. Runs H x ys c) r t
runs-append H a b c (x ∷ xs) ys r t = record { next = r.next; first = r.first; holds = r.holds; later = runs-append H r.next b c xs ys r.later t }

-- whatever holds after each event
unfoldable pub any-run : (H : Nodes → Type 0) (a b : Nodes) (events : List Event) → Runs H a events b → Runs Any a events b
any-run H a b [] r = r
any-run H a b (x ∷ xs) r = record { next = r.next; first = r.first; holds = tt; later = any-run H r.next b xs r.later }

-- with the same calls
pub any-called : (config : Config) (bearer : ℕ) (H : Nodes → Type 0) (a b : Nodes) (events : List Event) (r : Runs H a events b) → nodes_calls config bearer H a events b r ≡ nodes_calls config bearer Any a events b (any-run H a b events r)
unfolding any-run
any-called config bearer H a b [] r = refl
any-called config bearer H a b (x ∷ xs) r = ap (λ (l : List At). event_calls config bearer a x r.next ++ l) (any-called config bearer H r.next b xs r.later)
