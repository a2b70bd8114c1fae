-- Runs of three nodes in which what the far end takes of a channel's TTI fits what the near end gave for it: it is some
-- of it, in order, or just it.
use Rattle.std.specs.Prelude.{◌≡◌, ◌<◌, ◌%◌, ℕ, List, [], ◌∷◌, true, length}
use Rattle.dch_bits.specs.declared.bit.Bit.{Bit}
use Rattle.dch_types.specs.declared.channel.Dir.{Dir}
use Rattle.dch_types.specs.declared.channel.Dir.TheVariants.{Up, Down}
use Rattle.dch_types.specs.declared.channel.Side.{Side}
use Rattle.dch_types.specs.Parts.{channel_at}
use Rattle.dch_types.specs.Timing.{ends, set_frames}
use Rattle.dch_accept.specs.Plans.{Planned}
use Rattle.dch_node.specs.Lines.{Line}
use Rattle.dch_linkcmd.specs.Checks.{IsSublist, good_in}
use Rattle.dch_linkcmd.specs.LinkLink.{LinkState}
use Rattle.dch_runlaw.specs.Frames.{IsFrame}
use Rattle.dch_runlaw.specs.Runs.{Between, Event, Frame, Runs, Steps}

-- a channel of a direction is there, and its set has its TTI
pub record IsChannel (side : Side) (i : ℕ) : Type 0 where
  pub there : i < length side.channels
  pub some : 0 < (channel_at side i).frames
  pub divides : (n : ℕ) → (n % 256) % (channel_at side i).frames ≡ n % (channel_at side i).frames
  pub set : set_frames side (channel_at side i).set ≡ (channel_at side i).frames
  pub small : (channel_at side i).set < 8

-- in a radio frame: where the TTI of a channel ends, what was taken of it fits what was given for it
abbrev pub FrameFits : (List (List Bit) → List (List Bit) → Type 0) → (planned : Planned) → Dir → ℕ
    → (old new : LinkState) → (lines : List Line) → IsFrame old new lines → Type 0
FrameFits P planned Up i old new lines f = ends (channel_at planned.config.uplink.side i).frames old.rnc.state.cfn
    ≡ true → P (good_in ((f.taken (channel_at planned.config.uplink.side i).set).readings i))
    (new.ue.state.layer.given i).blocks
FrameFits P planned Down i old new lines f = ends (channel_at planned.config.downlink.side i).frames old.rnc.state.cfn
    ≡ true → P (good_in (new.ue.state.readings i)) (f.rnc.layer.given i).blocks

-- in an event, and in all events of a run
abbrev pub EventFits : (List (List Bit) → List (List Bit) → Type 0) → (planned : Planned) → Dir → ℕ → (old : LinkState)
    → (event : Event) → (new : LinkState) → (lines : List Line) → Steps old event new lines → Type 0
EventFits P planned dir i old (Between event) new lines step = Unit {0}
EventFits P planned dir i old Frame new lines step = FrameFits P planned dir i old new lines step.frame

abbrev pub RunFits : (List (List Bit) → List (List Bit) → Type 0) → (planned : Planned) → Dir → ℕ
    → (events : List Event) → (old new : LinkState) → (lines : List Line) → Runs old events new lines → Type 0
RunFits P planned dir i [] old new lines run = Unit {0}
RunFits P planned dir i (event ∷ events) old new lines run =
    EventFits P planned dir i old event run.next run.own run.step ×
    RunFits P planned dir i events run.next new run.rest run.later

-- in each radio frame that ends a TTI of a channel, the blocks that are taken as good are a subsequence of those that
-- were given to it for the TTI
abbrev pub IsHonest : (planned : Planned) → Dir → ℕ → (events : List Event) → (old new : LinkState)
    → (lines : List Line) → Runs old events new lines → Type 0
IsHonest planned dir i events old new lines run = RunFits IsSublist planned dir i events old new lines run

abbrev pub IsUndamagedOn : (planned : Planned) → Dir → ℕ → (events : List Event) → (old new : LinkState)
    → (lines : List Line) → Runs old events new lines → Type 0
IsUndamagedOn planned dir i events old new lines run = RunFits (λ taken given. taken
    ≡ given) planned dir i events old new lines run

-- of an uplink and a downlink channel: in each radio frame that ends a TTI, just the blocks that were given for the TTI
-- are taken as good
pub record IsUndamaged (planned : Planned) (up down : ℕ) (events : List Event) (old new : LinkState) (lines : List Line)
    (run : Runs old events new lines) : Type 0 where
  pub up_is : IsUndamagedOn planned Up up events old new lines run
  pub down_is : IsUndamagedOn planned Down down events old new lines run
