-- The calls that the two ends of an acknowledged bearer get where two ends do something with their layers 2, in order.
use Rattle.std.specs.Prelude.{◌++◌, ◌==◌, ℕ, List, [], ◌∷◌, Option, None, Some, if◌then◌else◌, filter, map}
use Rattle.dch_bits.specs.declared.bit.Bit.{Bit}
use Rattle.dch_types.specs.declared.channel.Dir.{Dir}
use Rattle.dch_types.specs.declared.config.Config.{Config}
use Rattle.dch_amlaw.specs.Pair.{Arrive, At, Build, Event, Far as FarCall, Near as NearCall, Offer, Tick}
use Rattle.dch_layer2.specs.Bearings.{channel_of}
use Rattle.dch_layer2.specs.Layers.{Layer}
use Rattle.dch_runlaw.specs.Doings.{Blocks, Doing, Offers, Says, Starts, Takes, Ticks, given_by, good_blocks}
use Rattle.dch_runlaw.specs.History.{is_mine}
use Rattle.dch_runlaw.specs.Worlds.{At as OneEvent, DoesAll, Far, Happens, Near, Runs, World, turned}

-- the blocks of bearer b on its channel, if it has one
abbrev pub own_on : Config → Dir → ℕ → Option ℕ → (ℕ → List (List Bit)) → List (List Bit)
own_on config dir b None blocks = []
own_on config dir b (Some i) blocks = filter (is_mine config dir b i) (blocks i)

-- its blocks among those of all channels of a direction
abbrev pub own_blocks : Config → Dir → ℕ → (ℕ → List (List Bit)) → List (List Bit)
own_blocks config dir b blocks = own_on config dir b (channel_of config dir b) blocks

-- a call for each of these blocks
abbrev pub for_each : Event → List (List Bit) → List Event
for_each call blocks = map (λ block. call) blocks

-- the offer of a unit to a bearer, where that is bearer b
abbrev pub offered : ℕ → ℕ → List ℕ → List Event
offered b bearer octets = if b == bearer then Offer octets ∷ [] else []

-- where an end does something: a unit is offered to bearer b, its timers tick, a PDU arrives in each good block for it,
-- or it builds each block that it gives
abbrev pub calls_in : Config → Dir → Dir → ℕ → Layer → Doing → Layer → List Event
calls_in config out into b old (Offers bearer octets bits) new = offered b bearer octets
calls_in config out into b old (Blocks combination on) new = []
calls_in config out into b old Ticks new = Tick ∷ []
calls_in config out into b old (Takes channel came) new = for_each Arrive (filter (is_mine config into b channel)
    (good_blocks came))
calls_in config out into b old (Starts cfn) new = for_each Build
    (own_blocks config out b (given_by config out old (Starts cfn) new))
calls_in config out into b old (Says lines) new = []

-- where it does one thing after another
abbrev pub calls_in_all : (config : Config) (out into : Dir) (b : ℕ) (old : World) (doings : List Doing) (new : World)
    → DoesAll config out into old doings new → List Event
calls_in_all config out into b old [] new does = []
calls_in_all config out into b old (doing ∷ doings) new does =
    calls_in config out into b old.near.layer doing does.next.near.layer ++
    calls_in_all config out into b does.next doings new does.later

-- in an event of one of the two ends
abbrev pub calls_at : (config : Config) (out into : Dir) (b : ℕ) (old : World) (event : OneEvent) (new : World)
    → Happens config out into old event new → List At
calls_at config out into b old (Near doings) new happens =
    map NearCall (calls_in_all config out into b old doings new happens)
calls_at config out into b old (Far doings) new happens =
    map FarCall (calls_in_all config into out b (turned old) doings (turned new) happens)

-- the calls that the two ends of bearer b get in a run of two layers 2, in order
abbrev pub run_calls : (config : Config) (out into : Dir) (b : ℕ) (Holds : World → Type 0) (old : World)
    (events : List OneEvent) (new : World) → Runs config out into Holds old events new → List At
run_calls config out into b Holds old [] new run = []
run_calls config out into b Holds old (event ∷ events) new run = calls_at config out into b old event run.next run.first
    ++ run_calls config out into b Holds run.next events new run.later
