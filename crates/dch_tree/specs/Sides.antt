-- The keys of a direction: their faults, and what they say.
use Rattle.std.specs.Prelude.{ℕ, List, [], ◌∷◌, ◌++◌, Bool, true, false, not, ◌&&◌, ◌==◌, if◌then◌else◌, length, take, slice_index_or, Option, Some, None, option_map, option_and_then, codes}
use Rattle.std.specs.List.{list_any}
use Rattle.toml.specs.Data.{Data, Items, no_items, item, Members, as_array, as_table}
use Rattle.dch_types.specs.declared.channel.Side.{Side}
use Rattle.dch_types.specs.declared.config.Uplink.{Uplink}
use Rattle.dch_types.specs.declared.config.Downlink.{Downlink}
use Rattle.dch_types.specs.Limits.{frame_sizes, spreading_factors}
use Rattle.dch_tree.specs.declared.fault.Fault.{Fault}
use Rattle.dch_tree.specs.declared.fault.Fault.TheVariants.{Range}
use Rattle.dch_tree.specs.declared.side.SetTti.{SetTti}
use Rattle.dch_tree.specs.Channels.{channel_faults, channel_of}
use Rattle.dch_tree.specs.Faults.{element_path}
use Rattle.dch_tree.specs.Rules.{number_within, number_among, frames_of_tti, fixed_of, combinations_of}
use Rattle.dch_tree.specs.Tables.{reading, value_of, required, unknown, need, field, items_faults, items_values, list_at, indexed}

-- a channel's set and TTI, where both keys keep their rules
abbrev pub both : Option ℕ → Option ℕ → Option SetTti
both set frames = option_and_then (λ s. option_map (λ f. record { set = s; frames = f }) frames) set

abbrev pub set_and_tti : Data → Option SetTti
set_and_tti d = option_and_then (λ ms. both (value_of (reading (number_within 0 7) (codes "set") ms))
    (value_of (reading frames_of_tti (codes "tti") ms))) (as_table d)

unfoldable pub sets_and_ttis : Items → List (Option SetTti)
sets_and_ttis no_items = []
sets_and_ttis (item d ds) = set_and_tti d ∷ sets_and_ttis ds

-- another channel has the same set and another TTI
abbrev pub clashes_with : SetTti → Option SetTti → Bool
clashes_with a None = false
clashes_with a (Some b) = a.set == b.set && not (a.frames == b.frames)

-- some channel of these does
abbrev pub clashes : Option SetTti → List (Option SetTti) → Bool
clashes None others = false
clashes (Some a) others = list_any (clashes_with a) others

-- the fault of a channel whose TTI is another than that of an earlier channel in its set
abbrev pub set_fault : List ℕ → ℕ → Bool → List Fault
set_fault path i clash = if clash then Range (element_path path (codes "channel") i ++ codes "set") ∷ [] else []

abbrev pub set_faults : List ℕ → List (Option SetTti) → ℕ → List Fault
set_faults path channels i = set_fault path i (clashes (slice_index_or channels i None) (take i channels))

-- the faults of the channels and the combinations of a direction
unfoldable pub side_faults : List ℕ → Members → List Fault
side_faults path ms =
    need combinations_of path (codes "combinations") ms
    ++ required (path ++ codes "channel") (reading as_array (codes "channel") ms)
    ++ items_faults channel_faults path (codes "channel") 0 (list_at (codes "channel") ms)
    ++ indexed (set_faults path (sets_and_ttis (list_at (codes "channel") ms)))
    (length (sets_and_ttis (list_at (codes "channel") ms)))

unfoldable pub side_from : Members → Side
side_from ms = record {
  channels = items_values channel_of (list_at (codes "channel") ms);
  combinations = field [] combinations_of (codes "combinations") ms;
}

-- the keys of the uplink
abbrev pub uplink_keys : List (List ℕ)
uplink_keys = codes "largest" ∷ codes "pl" ∷ codes "combinations" ∷ codes "channel" ∷ []

-- the faults of the keys of the uplink
unfoldable pub uplink_faults : List ℕ → Members → List Fault
uplink_faults path ms =
    unknown path uplink_keys ms
    ++ need (number_among frame_sizes) path (codes "largest") ms
    ++ need (number_within 40 100) path (codes "pl") ms
    ++ side_faults path ms

unfoldable pub uplink_of : Members → Uplink
uplink_of ms = record {
  side = side_from ms;
  largest = field 150 (number_among frame_sizes) (codes "largest") ms;
  pl = field 100 (number_within 40 100) (codes "pl") ms;
}

-- the keys of the downlink
abbrev pub downlink_keys : List (List ℕ)
downlink_keys = codes "slot_bits" ∷ codes "codes" ∷ codes "sf" ∷ codes "positions" ∷ codes "combinations" ∷ codes
    "channel" ∷ []

unfoldable pub downlink_faults : List ℕ → Members → List Fault
downlink_faults path ms =
    unknown path downlink_keys ms
    ++ need (number_within 1 1272) path (codes "slot_bits") ms
    ++ need (number_within 1 3) path (codes "codes") ms
    ++ need (number_among spreading_factors) path (codes "sf") ms
    ++ need fixed_of path (codes "positions") ms
    ++ side_faults path ms

unfoldable pub downlink_of : Members → Downlink
downlink_of ms = record {
  side = side_from ms;
  slot_bits = field 1 (number_within 1 1272) (codes "slot_bits") ms;
  codes = field 1 (number_within 1 3) (codes "codes") ms;
  sf = field 4 (number_among spreading_factors) (codes "sf") ms;
  fixed = field true fixed_of (codes "positions") ms;
}
