-- The calls that the two ends of an acknowledged bearer get at a terminal and a network controller, in order.
use Rattle.std.specs.Prelude.{◌++◌, ℕ, List, [], ◌∷◌, map}
use Rattle.dch_types.specs.declared.channel.Dir.TheVariants.{Down, Up}
use Rattle.dch_types.specs.declared.config.Config.{Config}
use Rattle.dch_amlaw.specs.Pair.{Arrive, At, Build, Event as Call, Far, Near, Tick}
use Rattle.dch_linkcmd.specs.Checks.{good_in}
use Rattle.dch_linkcmd.specs.RncState.{BlockedCombination as RncBlocked, Change as RncChange, Event as RncEvent, IubFrame, OfferedUnit as RncOffered, State as RncState, Tick as RncTicks}
use Rattle.dch_linkcmd.specs.UeState.{BlockedCombination as UeBlocked, Change as UeChange, DownlinkFrame, Event as UeEvent, OfferedUnit as UeOffered, State as UeState, Tick as UeTicks}
use Rattle.dch_runlaw.specs.Calls.{for_each, offered, own_blocks}
use Rattle.dch_runlaw.specs.Nodes.{AtRnc, AtUe, Event, Nodes, Runs, given_by_rnc, given_by_ue}

-- in a step of the terminal: a unit is offered to bearer b; or its timers tick, a PDU arrives in each good block for it
-- of a TTI that ended, and it builds each block that it gives for a TTI that starts
abbrev pub ue_calls : Config → ℕ → UeState → UeEvent → UeState → List Call
ue_calls config b old (UeOffered bearer octets bits) new = offered b bearer octets
ue_calls config b old (UeBlocked combination on) new = []
ue_calls config b old (DownlinkFrame frame) new = []
ue_calls config b old UeTicks new = Tick ∷ (for_each Arrive (own_blocks config Down b (λ i. good_in (new.readings i)))
    ++ for_each Build (own_blocks config Up b (given_by_ue old UeTicks new)))
ue_calls config b old (UeChange second) new = []

-- the calls that an end of bearer b gets in a step of the network controller: an SDU is offered; or its timers tick and
-- it builds each block that it gives for a TTI that starts; or a PDU arrives in each good block of an Iub frame
abbrev pub rnc_calls : Config → ℕ → RncState → RncEvent → RncState → List Call
rnc_calls config b old (RncOffered bearer octets bits) new = offered b bearer octets
rnc_calls config b old (RncBlocked combination on) new = []
rnc_calls config b old (IubFrame set octets) new = for_each Arrive
    (own_blocks config Up b (λ i. good_in (new.readings i)))
rnc_calls config b old RncTicks new = Tick ∷ for_each Build (own_blocks config Down b (given_by_rnc old RncTicks new))
rnc_calls config b old (RncChange second) new = []

-- in an event of one of the two, the terminal's end being the near one
abbrev pub event_calls : Config → ℕ → Nodes → Event → Nodes → List At
event_calls config b old (AtUe event) new = map Near (ue_calls config b old.ue event new.ue)
event_calls config b old (AtRnc event) new = map Far (rnc_calls config b old.rnc event new.rnc)

-- the calls that the two ends of bearer b get in a run of a terminal and a network controller, in order
abbrev pub nodes_calls : (config : Config) (b : ℕ) (Holds : Nodes → Type 0) (old : Nodes) (events : List Event)
    (new : Nodes) → Runs Holds old events new → List At
nodes_calls config b Holds old [] new run = []
nodes_calls config b Holds old (event ∷ events) new run = event_calls config b old event run.next
    ++ nodes_calls config b Holds run.next events new run.later
