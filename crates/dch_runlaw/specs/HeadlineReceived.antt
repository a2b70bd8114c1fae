-- TTIs that are received undamaged, or with little damage, in whatever part of a run of three nodes.
use Rattle.std.specs.Prelude.{◌<◌, ℕ, List, length}
use Rattle.dch_types.specs.Parts.{channel_at}
use Rattle.dch_types.specs.Timing.{set_frames}
use Rattle.dch_accept.specs.Plans.{Planned}
use Rattle.dch_node.specs.Lines.{Line}
use Rattle.dch_linkcmd.specs.LinkLink.{LinkState}
use Rattle.dch_runlaw.specs.Runs.{Event, Runs}
use Rattle.dch_runlaw.specs.Intervals.{ArrivesDown, ArrivesUp, DownAsGiven, Tti, UpAsGiven}

-- where all radio frames of a downlink channel's TTI arrive as the Node B sent them, or with little damage, the
-- terminal
-- finds their combinations and reads just the blocks that it sent, all good: in every run from the beginning of a part
-- on
abbrev pub ReceivesDown : Planned → LinkState → Type 0
ReceivesDown planned start =
    (i : ℕ) (events : List Event) (mid new : LinkState) (lines : List Line) → Runs start events mid lines
    → i < length planned.config.downlink.side.channels
    → (t : Tti (channel_at planned.config.downlink.side i).frames mid new)
    → ArrivesDown planned i (channel_at planned.config.downlink.side i).frames mid new t
    → DownAsGiven planned i (channel_at planned.config.downlink.side i).frames mid new t

-- where all radio frames of the TTI of a set of uplink channels arrive as the terminal sent them, or with little
-- damage,
-- the Node B finds their combinations and hands on just the blocks that it sent, all good
abbrev pub ReceivesUp : Planned → LinkState → Type 0
ReceivesUp planned start =
    (set : ℕ) (events : List Event) (mid new : LinkState) (lines : List Line) → Runs start events mid lines → set < 8
    → (t : Tti (set_frames planned.config.uplink.side set) mid new)
    → ArrivesUp planned set (set_frames planned.config.uplink.side set) mid new t
    → UpAsGiven planned set (set_frames planned.config.uplink.side set) mid new t
