-- What happens at the terminal and the network controller in a run of three nodes, event by event.
use Rattle.std.specs.Prelude.{◌++◌, ℕ, zero, suc, List, [], ◌∷◌, Option, None, Some}
use Rattle.dch_types.specs.declared.channel.Dir.TheVariants.{Up, Down}
use Rattle.dch_node.specs.Lines.{Line}
use Rattle.dch_damage.specs.Damage.{iub_after, radio_after}
use Rattle.dch_linkcmd.specs.UeState.{BlockedCombination as UeBlocked, DownlinkFrame, OfferedUnit as UeOffered, Tick as UeTicks}
use Rattle.dch_linkcmd.specs.RncState.{BlockedCombination as RncBlocked, IubFrame, OfferedUnit as RncOffered, Tick as RncTicks}
use Rattle.dch_linkcmd.specs.Events.{BlockedCombination, Damages, Event as LinkEvent, OfferedUnit}
use Rattle.dch_linkcmd.specs.LinkLink.{LinkState}
use Rattle.dch_runlaw.specs.Frames.{IsFrame}
use Rattle.dch_runlaw.specs.Nodes.{AtRnc, AtUe, Event as NodesEvent}
use Rattle.dch_runlaw.specs.Runs.{Between, Event, Frame, Runs, Steps}

-- what happens between two radio frames is an event of one of the two, but for damage
abbrev pub between : LinkEvent → List NodesEvent
between (OfferedUnit Up bearer octets bits) = AtUe (UeOffered bearer octets bits) ∷ []
between (OfferedUnit Down bearer octets bits) = AtRnc (RncOffered bearer octets bits) ∷ []
between (BlockedCombination Up combination on) = AtUe (UeBlocked combination on) ∷ []
between (BlockedCombination Down combination on) = AtRnc (RncBlocked combination on) ∷ []
between (Damages damage) = []

-- the network controller takes the Iub frame of a set, if one arrives
abbrev pub arrived : ℕ → Option (List ℕ) → List NodesEvent
arrived set None = []
arrived set (Some octets) = AtRnc (IubFrame set octets) ∷ []

-- and those of the first sets
abbrev pub arrived_below : (ℕ → Option (List ℕ)) → ℕ → List NodesEvent
arrived_below frames zero = []
arrived_below frames (suc s) = arrived_below frames s ++ arrived s (frames s)

-- what arrives in a radio frame at the network controller of each set
abbrev pub iub_arriving : (old new : LinkState) → (lines : List Line) → IsFrame old new lines → ℕ → Option (List ℕ)
iub_arriving old new lines f set = iub_after old.damage Up set (f.up_output.iub set)

-- in a radio frame, up to a set: the network controller ticks, the terminal gets what arrives and ticks, and Iub frames
-- arrive
abbrev pub until_set : (old new : LinkState) → (lines : List Line) → IsFrame old new lines → ℕ → List NodesEvent
until_set old new lines f s = AtRnc RncTicks ∷ AtUe (DownlinkFrame (radio_after old.damage Down f.down_output.sent))
    ∷ AtUe UeTicks ∷ arrived_below (iub_arriving old new lines f) s

abbrev pub in_step : (event : Event) → (old new : LinkState) → (lines : List Line) → Steps old event new lines
    → List NodesEvent
in_step (Between event) old new lines step = between event
in_step Frame old new lines step = until_set old new lines step.frame 8

-- the events at the terminal and the network controller in a run of three nodes, in order
abbrev pub end_events : (events : List Event) → (old new : LinkState) → (lines : List Line) → Runs old events new lines
    → List NodesEvent
end_events [] old new lines run = []
end_events (event ∷ events) old new lines run = in_step event old run.next run.own run.step
    ++ end_events events run.next new run.rest run.later
