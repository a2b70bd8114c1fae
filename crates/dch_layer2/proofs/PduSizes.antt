-- The bearer of a good block, and how large the PDU in it is.
use Rattle.std.proofs.Common.{◌≡◌, ◌<◌, ◌≤◌, ◌+◌, ◌*◌, ◌/◌, ◌∙◌, ◌&&◌, ◌||◌, ℕ, zero, suc, List, [], Bool, true, false, cond, Option, Some, None, get_or, length, drop, arith, refl, ap, sym, length-drop}
use Rattle.std.specs.Prelude.{◌==◌, position}
use Rattle.std.proofs.lemmas.Bool.{eqb-true}
use Rattle.std.proofs.lemmas.List.Folds.{list_all_at}
use Rattle.std.proofs.lemmas.List.Quantifiers.{position-Some}
use Rattle.dch_bits.specs.declared.bit.Bit.{Bit}
use Rattle.dch_bits.specs.declared.bit.Bit.TheVariants.{Zero, One}
use Rattle.dch_bits.specs.Bits.{number_of}
use Rattle.dch_types.specs.declared.bearer.Bearer.{Bearer}
use Rattle.dch_types.specs.declared.channel.Dir.{Dir}
use Rattle.dch_types.specs.declared.channel.Dir.TheVariants.{Up, Down}
use Rattle.dch_types.specs.declared.channel.Format.{Format}
use Rattle.dch_types.specs.declared.config.Config.{Config}
use Rattle.dch_types.specs.Limits.{IsSide, is_idle}
use Rattle.dch_types.specs.Parts.{channel_at, format_at, side_of, channel_number}
use Rattle.dch_tree.specs.Bearers.{bearer_at}
use Rattle.dch_config.specs.Bearers.{has_ct, have_one_size, names}
use Rattle.dch_config.specs.Good.{IsGood}
use Rattle.dch_mac.specs.declared.answer.Demux.TheVariants.{To, Reserved, NoBearer}
use Rattle.dch_mac.specs.Field.{field_bits, field_of}
use Rattle.dch_mac.specs.Receivers.{alone, is_named, named_by, only_receiver, receiver, receiver_of_field}
use Rattle.dch_layer2.specs.Bearings.{Bearing, Transparent, Unacknowledged, Acknowledged, bearer_in, block_bits, channel_of, ct_of, field_on, pdu_octets}
use Rattle.dch_layer2.proofs.Good.{AreFilled, am_fits, um_fits}
use Rattle.dch_layer2.specs.BoundedBearers.{IsBounded}
use Rattle.dch_layer2.specs.FormatBlocks.{IsBlock}
use Rattle.dch_layer2.proofs.BoundedBearings.{MayCome}

-- bearer b has the channel, and its PDU begins behind so many bits
pub record IsReached (config : Config) (into : Dir) (channel b skip : ℕ) : Type 0 where
  pub there : b < length config.bearers
  pub on : channel_of config into b ≡ Some channel
  pub behind : skip ≡ field_bits (ct_of config into b)

record Found (o : Option ℕ) (b skip bits : ℕ) : Type 0 where
  at : o ≡ Some b
  behind : skip ≡ bits

named_case : (o : Option ℕ) (l b skip : ℕ) → named_by o l ≡ To b skip → Found o b skip 4
named_case None l b skip e = absurd (cc)
named_case (Some k) l b skip e = let same : k ≡ b = cc in record { at = ap Some same; behind = cc }

alone_case : (o : Option ℕ) (b skip : ℕ) → alone o ≡ To b skip → Found o b skip 0
alone_case None b skip e = absurd (cc)
alone_case (Some k) b skip e = let same : k ≡ b = cc in record { at = ap Some same; behind = cc }

number_is : (o : Option ℕ) (i : ℕ) → names o i ≡ true → o ≡ Some i
number_is None i e = absurd (cc)
number_is (Some j) i e = ap Some (eqb-true j i e)

first_true : (a b : Bool) → (a && b) ≡ true → a ≡ true
first_true true b e = refl
first_true false b e = absurd (cc)

-- behind the field, where the channel has one
behind_is : (config : Config) (into : Dir) (channel b : ℕ) (c : Bool) → channel_of config into b ≡ Some channel → has_ct config into channel ≡ c → field_bits (ct_of config into b) ≡ cond c 4 0
behind_is config into channel b c on h = ap (λ o. field_bits (field_on config into b o)) on ∙ ap (λ (x : Bool). field_bits (cond x (Some (bearer_in config b).logical) None)) h ∙ width c
  where
    width : (x : Bool) → field_bits (cond x (Some (bearer_in config b).logical) None) ≡ cond x 4 0
    width true = refl
    width false = refl

field_case : (config : Config) (into : Dir) (channel f b skip : ℕ) → has_ct config into channel ≡ true → (c : Bool) → cond c Reserved (named_by (position (is_named into channel (f + 1)) config.bearers) (f + 1)) ≡ To b skip → IsReached config into channel b skip
field_case config into channel f b skip h true e = absurd (cc)
field_case config into channel f b skip h false e =
    let found : Found (position (is_named into channel (f + 1)) config.bearers) b skip 4 = named_case (position (is_named into channel (f + 1)) config.bearers) (f + 1) b skip e in
    let place = position-Some (is_named into channel (f + 1)) config.bearers b (bearer_at [] 0) found.at in
    let on : channel_of config into b ≡ Some channel = number_is (channel_of config into b) channel (first_true (names (channel_of config into b) channel) ((bearer_at config.bearers b).logical == f + 1) place.1) in
    record { there = place.0; on = on; behind = found.behind ∙ sym (behind_is config into channel b true on h) }

only_case : (config : Config) (into : Dir) (channel b skip : ℕ) → has_ct config into channel ≡ false → only_receiver config.bearers into channel ≡ To b skip → IsReached config into channel b skip
only_case config into channel b skip h e =
    let found : Found (position (λ (x : Bearer). names (channel_number into x) channel) config.bearers) b skip 0 = alone_case (position (λ (x : Bearer). names (channel_number into x) channel) config.bearers) b skip e in
    let place = position-Some (λ (x : Bearer). names (channel_number into x) channel) config.bearers b (bearer_at [] 0) found.at in
    let on : channel_of config into b ≡ Some channel = number_is (channel_of config into b) channel place.1 in
    record { there = place.0; on = on; behind = found.behind ∙ sym (behind_is config into channel b false on h) }

pub reached : (config : Config) (into : Dir) (channel : ℕ) (bits : List Bit) (b skip : ℕ) → receiver config into channel bits ≡ To b skip → IsReached config into channel b skip
reached config into channel bits b skip e = go (has_ct config into channel) refl e
  where
    go : (c : Bool) → has_ct config into channel ≡ c → cond c (receiver_of_field config.bearers into channel (field_of bits)) (only_receiver config.bearers into channel) ≡ To b skip → IsReached config into channel b skip
    go true h f = field_case config into channel (field_of bits) b skip h (field_of bits == 15) f
    go false h f = only_case config into channel b skip h f

-- a logical channel that no bearer has is one of 1 to 15
bit_small : (bit : Bit) → number_of bit ≤ 1
bit_small Zero = omega arith
bit_small One = omega arith

field_small : (bits : List Bit) → field_of bits ≤ 15
field_small bits = omega (arith, bit_small (get_or bits 0 Zero), bit_small (get_or bits 1 Zero), bit_small (get_or bits 2 Zero), bit_small (get_or bits 3 Zero))

named_number : (o : Option ℕ) (l ct : ℕ) → named_by o l ≡ NoBearer ct → ct ≡ l
named_number None l ct e = cc
named_number (Some k) l ct e = absurd (cc)

alone_never : (o : Option ℕ) (ct : ℕ) → alone o ≡ NoBearer ct → ⊥
alone_never None ct e = absurd (cc)
alone_never (Some k) ct e = absurd (cc)

pub logical_small : (config : Config) (into : Dir) (channel : ℕ) (bits : List Bit) (ct : ℕ) → receiver config into channel bits ≡ NoBearer ct → ct < 1000
logical_small config into channel bits ct e = go (has_ct config into channel) (field_of bits == 15) e
  where
    go : (c reserved : Bool) → cond c (cond reserved Reserved (named_by (position (is_named into channel (field_of bits + 1)) config.bearers) (field_of bits + 1))) (only_receiver config.bearers into channel) ≡ NoBearer ct → ct < 1000
    go true true f = absurd (cc)
    go true false f = omega (arith, field_small bits, named_number (position (is_named into channel (field_of bits + 1)) config.bearers) (field_of bits + 1) ct f)
    go false reserved f = absurd (alone_never (position (λ (x : Bearer). names (channel_number into x) channel) config.bearers) ct f)

-- a block that has bits is as long as all of the channel's
pub sent_size : (format : Format) (n : ℕ) → 1 ≤ format.number → 1 ≤ format.size → (is_idle format || (format.size == n)) ≡ true → format.size ≡ n
sent_size format n some bits is = go (is_idle format) refl is
  where
    go : (c : Bool) → is_idle format ≡ c → (c || (format.size == n)) ≡ true → format.size ≡ n
    go true idle e =
        let none : format.number * format.size ≡ 0 = eqb-true (format.number * format.size) 0 idle in
        absurd (positive format.number format.size some bits none)
      where
        positive : (a b : ℕ) → 1 ≤ a → 1 ≤ b → a * b ≡ 0 → ⊥
        positive zero b l m z = omega (arith, l)
        positive (suc a) b l m z = let product : suc a * b ≡ a * b + b = omega arith in omega (arith, m, z, product)
    go false idle e = eqb-true format.size n e

pub one_long : (formats : List Format) (n f : ℕ) (d : Format) → have_one_size formats n ≡ true → f < length formats → (is_idle (get_or formats f d) || ((get_or formats f d).size == n)) ≡ true
one_long formats n f d one there = go (is_idle (get_or formats f d) || ((get_or formats f d).size == n)) refl
  where
    go : (c : Bool) → (is_idle (get_or formats f d) || ((get_or formats f d).size == n)) ≡ c → (is_idle (get_or formats f d) || ((get_or formats f d).size == n)) ≡ true
    go true e = e
    go false e =
        let all : have_one_size formats n ≡ false = list_all_at (λ (x : Format). is_idle x || (x.size == n)) formats f d there e in
        absurd (cc)

-- the octets of the PDU in it
octets_come : (config : Config) (into : Dir) (channel b skip low high : ℕ) (bits : List Bit) → IsReached config into channel b skip → IsBlock config into channel bits → 0 < length bits → AreFilled config into b channel low high → length (drop skip bits) / 8 ≤ high
octets_come config into channel b skip low high bits reach block some fits =
    let format : Format = format_at (channel_at (side_of config into) channel) block.format in
    let same : format.size ≡ block_bits config into b = sent_size format (block_bits config into b) block.some (omega (arith, some, block.size))
    (one_long (channel_at (side_of config into) channel).formats (block_bits config into b) block.format (record { number = 0; size = 0 }) fits.one_size block.there) in
    let long : length (drop skip bits) ≡ 8 * pdu_octets config into b = omega (arith, length-drop skip bits, block.size, same, fits.whole, reach.behind) in
    omega (arith, long, fits.most)

pub side_good : (config : Config) (dir : Dir) → IsGood config → IsSide (side_of config dir)
side_good config Up good = good.uplink.side
side_good config Down good = good.downlink.side

-- the channels of a direction are few
pub channel_small : (config : Config) (dir : Dir) (channel : ℕ) → IsGood config → channel < length (side_of config dir).channels → channel < 8
channel_small config dir channel good inside = omega (arith, inside, (side_good config dir good).few)

block_small : (config : Config) (into : Dir) (channel : ℕ) (bits : List Bit) → IsGood config → channel < length (side_of config into).channels → IsBlock config into channel bits → length bits ≤ 5000
block_small config into channel bits good inside block = omega (arith, block.size, (((side_good config into good).channels channel inside).formats block.format block.there).size)

pub may_come : (config : Config) (into : Dir) (channel b skip : ℕ) (bits : List Bit) (bearing : Bearing) → IsGood config → channel < length (side_of config into).channels → IsReached config into channel b skip → IsBlock config into channel bits → 0 < length bits → IsBounded config b bearing →
    MayCome (length (drop skip bits)) bearing
may_come config into channel b skip bits (Transparent w us) good inside reach block some is = omega (arith, length-drop skip bits, block_small config into channel bits good inside block)
may_come config into channel b skip bits (Unacknowledged s r) good inside reach block some is = octets_come config into channel b skip 3 125 bits reach block some (um_fits config into b channel good reach.on is.mode)
may_come config into channel b skip bits (Acknowledged s r) good inside reach block some is = octets_come config into channel b skip 6 126 bits reach block some (am_fits config into b channel good reach.on is.mode)
