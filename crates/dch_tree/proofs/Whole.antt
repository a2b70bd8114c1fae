-- What a configuration keeps where no key of its document has a fault.
use Rattle.std.proofs.Common.{◌≡◌, ◌≢◌, ◌<◌, ◌≤◌, ℕ, true, List, [], ◌++◌, length, get_or, Option, Some, None, refl, sym, subst, arith}
use Rattle.std.specs.Prelude.{codes, Contains, unwrap_or, option_map, option_and_then}
use Rattle.std.specs.Option.{option_map_or}
use Rattle.toml.specs.Data.{Data, Items, Members, no_members, get_member, as_table}
use Rattle.dch_types.specs.declared.channel.Trch.{Trch}
use Rattle.dch_types.specs.declared.channel.Side.{Side}
use Rattle.dch_types.specs.declared.config.Uplink.{Uplink}
use Rattle.dch_types.specs.declared.config.Downlink.{Downlink}
use Rattle.dch_types.specs.declared.config.Config.{Config}
use Rattle.dch_types.specs.declared.bearer.Bearer.{Bearer}
use Rattle.dch_types.specs.Limits.{frame_sizes, spreading_factors}
use Rattle.dch_types.specs.Parts.{channel_at}
use Rattle.dch_tree.specs.declared.fault.Fault.{Fault}
use Rattle.dch_tree.specs.Rules.{number_within, number_among}
use Rattle.dch_tree.specs.Tables.{required, members_at, table_faults, list_at, items_values}
use Rattle.dch_tree.specs.Channels.{channel_of}
use Rattle.dch_tree.specs.Sides.{side_faults, side_from, uplink_faults, uplink_of, downlink_faults, downlink_of}
use Rattle.dch_tree.specs.Bearers.{bearer_at, bearer_faults, bearer_of, bearers_faults, bearers_of, shares, together_faults}
use Rattle.dch_tree.specs.Documents.{uplink_channels, downlink_channels, document_faults, config_of}
use Rattle.dch_tree.proofs.Kept.{front_none, back_none, few_bearers}
use Rattle.dch_tree.proofs.Ranges.{field_keeps, number_within_keeps, number_among_keeps}
use Rattle.dch_tree.proofs.Channels.{KeepsRanges, channel_keeps, values_at, clean_at, sets_kept}
use Rattle.dch_tree.proofs.Bearers.{KeepsBearer, bearer_keeps, IsSomewhere, bearer_somewhere}
use Rattle.dch_tree.proofs.Partners.{KeepsSharing, sharing_kept}

-- the channels of a direction
pub record KeepsSide (side : Side) : Type 0 where
  pub channels : (i : ℕ) → i < length side.channels → KeepsRanges (channel_at side i)
  pub sets : (i j : ℕ) → i < j → j < length side.channels → (channel_at side i).set ≡ (channel_at side j).set → (channel_at side i).frames ≡ (channel_at side j).frames

channel_ranges : (items : Items) (i : ℕ) (d : Trch) → i < length (items_values channel_of items) → KeepsRanges (get_or (items_values channel_of items) i d)
channel_ranges items i d inside = let (ms, is) = values_at channel_of items i d inside in subst KeepsRanges (sym is) (channel_keeps ms)

side_keeps : (path : List ℕ) (ms : Members) → side_faults path ms ≡ [] → KeepsSide (side_from ms)
unfolding side_faults side_from
side_keeps path ms none = record {
  channels = λ i inside. channel_ranges (list_at (codes "channel") ms) i _ inside;
  sets = λ i j before inside same. sets_kept path (codes "channel") (list_at (codes "channel") ms) (back_none _ _ (front_none _ _ none)) (back_none _ _ none) i j _ before inside same;
}

-- the uplink and the downlink
pub record KeepsUplink (uplink : Uplink) : Type 0 where
  pub side : KeepsSide uplink.side
  pub largest : Contains frame_sizes uplink.largest
  pub pl : (40 ≤ uplink.pl) × (uplink.pl ≤ 100)

uplink_keeps : (path : List ℕ) (ms : Members) → uplink_faults path ms ≡ [] → KeepsUplink (uplink_of ms)
unfolding uplink_faults uplink_of
uplink_keeps path ms none = record {
  side = side_keeps path ms (back_none _ _ none);
  largest = field_keeps (λ n. Contains frame_sizes n) 150 (number_among frame_sizes) (codes "largest") ms (0, omega arith, refl) (number_among_keeps frame_sizes);
  pl = field_keeps (λ n. (40 ≤ n) × (n ≤ 100)) 100 (number_within 40 100) (codes "pl") ms (omega arith, omega arith) (number_within_keeps 40 100);
}

pub record KeepsDownlink (downlink : Downlink) : Type 0 where
  pub side : KeepsSide downlink.side
  pub slot_bits : (1 ≤ downlink.slot_bits) × (downlink.slot_bits ≤ 1272)
  pub codes : (1 ≤ downlink.codes) × (downlink.codes ≤ 3)
  pub sf : Contains spreading_factors downlink.sf

downlink_keeps : (path : List ℕ) (ms : Members) → downlink_faults path ms ≡ [] → KeepsDownlink (downlink_of ms)
unfolding downlink_faults downlink_of
downlink_keeps path ms none = record {
  side = side_keeps path ms (back_none _ _ none);
  slot_bits = field_keeps (λ n. (1 ≤ n) × (n ≤ 1272)) 1 (number_within 1 1272) (codes "slot_bits") ms (omega arith, omega arith) (number_within_keeps 1 1272);
  codes = field_keeps (λ n. (1 ≤ n) × (n ≤ 3)) 1 (number_within 1 3) (codes "codes") ms (omega arith, omega arith) (number_within_keeps 1 3);
  sf = field_keeps (λ n. Contains spreading_factors n) 4 (number_among spreading_factors) (codes "sf") ms (0, omega arith, refl) (number_among_keeps spreading_factors);
}

-- a table without faults is there
found : (faults : List ℕ → Members → List Fault) (key : List ℕ) (o : Option Data) → required key (option_map as_table o) ++ option_map_or (faults (key ++ codes ".")) (option_and_then as_table o) [] ≡ []
    → (ms : Members) × (option_and_then as_table o ≡ Some ms) × (faults (key ++ codes ".") ms ≡ [])
found faults key None none = cc
found faults key (Some d) none = inner (as_table d) none
  where
    inner : (t : Option Members) → required key (Some t) ++ option_map_or (faults (key ++ codes ".")) t [] ≡ [] → (ms : Members) × (t ≡ Some ms) × (faults (key ++ codes ".") ms ≡ [])
    inner None none = cc
    inner (Some ms) none = (ms, refl, none)

there : {A : Type 0} (P : A → Type 0) (value : Members → A) (faults : List ℕ → Members → List Fault) (key : List ℕ) (tree : Members) → table_faults faults key tree ≡ []
    → ((ms : Members) → faults (key ++ codes ".") ms ≡ [] → P (value ms)) → P (value (members_at key tree))
there P value faults key tree none keeps =
    let (ms, is, clean) = found faults key (get_member key tree) none in
    subst (λ o. P (value (unwrap_or o no_members))) (sym is) (keeps ms clean)

-- the whole
pub record KeepsKeys (config : Config) : Type 0 where
  pub uplink : KeepsUplink config.uplink
  pub downlink : KeepsDownlink config.downlink
  pub few : length config.bearers ≤ 16
  pub bearers : (b : ℕ) → b < length config.bearers → KeepsBearer (length config.uplink.side.channels) (length config.downlink.side.channels) (bearer_at config.bearers b)
  pub somewhere : (b : ℕ) → b < length config.bearers → IsSomewhere (bearer_at config.bearers b)
  pub sharing : (b c : ℕ) → b < length config.bearers → c < length config.bearers → b ≢ c
      → shares (bearer_at config.bearers b) (bearer_at config.bearers c) ≡ true → KeepsSharing (bearer_at config.bearers b) (bearer_at config.bearers c)

bearers_keep : (ups downs : ℕ) (items : Items) (b : ℕ) (d : Bearer) → b < length (items_values (bearer_of ups downs) items) → KeepsBearer ups downs (get_or (items_values (bearer_of ups downs) items) b d)
bearers_keep ups downs items b d inside = let (ms, is) = values_at (bearer_of ups downs) items b d inside in subst (KeepsBearer ups downs) (sym is) (bearer_keeps ups downs ms)

bearers_somewhere : (ups downs : ℕ) (tree : Members) → bearers_faults ups downs tree ≡ [] → (b : ℕ) → b < length (bearers_of ups downs tree) → IsSomewhere (bearer_at (bearers_of ups downs tree) b)
unfolding bearers_faults
bearers_somewhere ups downs tree none b inside =
    let (ms, clean, is) = clean_at (bearer_faults ups downs) (bearer_of ups downs) [] (codes "bearer") 0 (list_at (codes "bearer") tree) (back_none _ _ (front_none _ _ none)) b _ inside in
    subst IsSomewhere (sym is) (bearer_somewhere ups downs clean.path ms clean.none)

bearers_share : (ups downs : ℕ) (tree : Members) → bearers_faults ups downs tree ≡ [] → together_faults (bearers_of ups downs tree) ≡ []
unfolding bearers_faults
bearers_share ups downs tree none = back_none _ _ none

pub document_keeps : (tree : Members) → document_faults tree ≡ [] → KeepsKeys (config_of tree)
unfolding document_faults config_of
document_keeps tree none =
    let ups : ℕ = uplink_channels tree in
    let downs : ℕ = downlink_channels tree in
    let of_bearers : bearers_faults ups downs tree ≡ [] = back_none _ _ none in
    let to_downlink = front_none _ _ none in
    record {
      uplink = there KeepsUplink uplink_of uplink_faults (codes "uplink") tree (back_none _ _ (front_none _ _ to_downlink)) (uplink_keeps (codes "uplink" ++ codes "."));
      downlink = there KeepsDownlink downlink_of downlink_faults (codes "downlink") tree (back_none _ _ to_downlink) (downlink_keeps (codes "downlink" ++ codes "."));
      few = few_bearers tree none;
      bearers = λ b inside. bearers_keep ups downs (list_at (codes "bearer") tree) b _ inside;
      somewhere = bearers_somewhere ups downs tree of_bearers;
      sharing = sharing_kept (bearers_of ups downs tree) (bearers_share ups downs tree of_bearers);
    }
