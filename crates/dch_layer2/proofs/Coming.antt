-- The bits of the PDU in a good block, and its bearer.
use Rattle.std.proofs.Common.{◌≡◌, ◌<◌, ◌≤◌, ◌*◌, ◌∙◌, ℕ, zero, suc, List, [], ◌∷◌, false, true, Option, Some, length, drop, arith, refl, sym, ap, subst, length-drop}
use Rattle.std.specs.Prelude.{◌==◌, IsSome}
use Rattle.dch_bits.specs.declared.bit.Bit.{Bit}
use Rattle.dch_types.specs.declared.channel.Dir.{Dir}
use Rattle.dch_types.specs.declared.channel.Format.{Format}
use Rattle.dch_types.specs.declared.config.Config.{Config}
use Rattle.dch_types.specs.Parts.{channel_at, format_at, side_of}
use Rattle.dch_config.specs.Good.{IsGood}
use Rattle.dch_mac.specs.declared.answer.Demux.{Demux}
use Rattle.dch_mac.specs.Field.{field_bits}
use Rattle.dch_mac.specs.Receivers.{receiver}
use Rattle.dch_layer2.specs.Bearings.{Bearing, Transparent, Unacknowledged, Acknowledged, block_bits, pdu_octets}
use Rattle.dch_layer2.specs.Layers.{Layer, goes, takes_good}
use Rattle.dch_layer2.proofs.Good.{AreFilled, am_fits, no_field, um_fits}
use Rattle.dch_layer2.specs.BearerStanding.{CanTake, MayCome, Represents as StandsFor}
use Rattle.dch_layer2.specs.declared.bearer.Bearer.{Bearer}
use Rattle.dch_layer2.specs.declared.bearer.Bearer.TheVariants.{Tm, Um, Am}
use Rattle.dch_layer2.proofs.PduSizes.{IsReached, one_long, sent_size}
use Rattle.dch_layer2.specs.Coming.{IsBlockSize}
use Rattle.dch_layer2.specs.Standing.{IsLayerOf}
use Rattle.dch_layer2.specs.Values.{LayerRunning, entity_at}

-- the octets of the PDU in a block
octets_come : (config : Config) (into : Dir) (channel b skip low high : ℕ) (bits : List Bit) → IsReached config into channel b skip → IsBlockSize config into channel (length bits) → 0 < length bits → AreFilled config into b channel low high →
    (length (drop skip bits) ≡ 8 * pdu_octets config into b) × (pdu_octets config into b ≤ high) × (skip ≤ length bits)
octets_come config into channel b skip low high bits reach size some fits =
    let format : Format = format_at (channel_at (side_of config into) channel) size.format in
    let same : format.size ≡ block_bits config into b = sent_size format (block_bits config into b) size.some (omega (arith, some, size.size))
    (one_long (channel_at (side_of config into) channel).formats (block_bits config into b) size.format (record { number = 0; size = 0 }) fits.one_size size.there) in
    (omega (arith, length-drop skip bits, size.size, same, fits.whole, reach.behind), fits.most, omega (arith, size.size, same, fits.whole, reach.behind))

pub may_come : (config : Config) (out into : Dir) (channel b skip : ℕ) (bits : List Bit) (bearing : Bearing) (x : Bearer) → IsGood config → IsReached config into channel b skip → IsBlockSize config into channel (length bits) → 0 < length bits →
    StandsFor config out into b bearing x → MayCome config into b bearing (length (drop skip bits))
may_come config out into channel b skip bits (Transparent w us) x good reach size some is = tt
may_come config out into channel b skip bits (Unacknowledged s r) (Tm v) good reach size some is = absurd is
may_come config out into channel b skip bits (Unacknowledged s r) (Um v) good reach size some is = let octets = octets_come config into channel b skip 3 125 bits reach size some (um_fits config into b channel good reach.on is.mode) in (octets.0, octets.1)
may_come config out into channel b skip bits (Unacknowledged s r) (Am v) good reach size some is = absurd is
may_come config out into channel b skip bits (Acknowledged s r) (Tm v) good reach size some is = absurd is
may_come config out into channel b skip bits (Acknowledged s r) (Um v) good reach size some is = absurd is
may_come config out into channel b skip bits (Acknowledged s r) (Am v) good reach size some is = let octets = octets_come config into channel b skip 6 126 bits reach size some (am_fits config into b channel good reach.on is.mode) in (octets.0, octets.1)

pub skip_inside : (config : Config) (out into : Dir) (channel b skip : ℕ) (bits : List Bit) (bearing : Bearing) (x : Bearer) → IsGood config → IsReached config into channel b skip → IsBlockSize config into channel (length bits) → 0 < length bits →
    StandsFor config out into b bearing x → skip ≤ length bits
skip_inside config out into channel b skip bits (Transparent w us) (Tm v) good reach size some is =
    let none : skip ≡ 0 = reach.behind ∙ ap field_bits (no_field config into b (Some channel) good reach.on is.mode) in
    omega (arith, none)
skip_inside config out into channel b skip bits (Transparent w us) (Um v) good reach size some is = absurd is
skip_inside config out into channel b skip bits (Transparent w us) (Am v) good reach size some is = absurd is
skip_inside config out into channel b skip bits (Unacknowledged s r) (Tm v) good reach size some is = absurd is
skip_inside config out into channel b skip bits (Unacknowledged s r) (Um v) good reach size some is = (octets_come config into channel b skip 3 125 bits reach size some (um_fits config into b channel good reach.on is.mode)).2
skip_inside config out into channel b skip bits (Unacknowledged s r) (Am v) good reach size some is = absurd is
skip_inside config out into channel b skip bits (Acknowledged s r) (Tm v) good reach size some is = absurd is
skip_inside config out into channel b skip bits (Acknowledged s r) (Um v) good reach size some is = absurd is
skip_inside config out into channel b skip bits (Acknowledged s r) (Am v) good reach size some is = (octets_come config into channel b skip 6 126 bits reach size some (am_fits config into b channel good reach.on is.mode)).2

-- its bearer may take it
pub passes : (config : Config) (channel b skip : ℕ) (bits : List Bit) (v : LayerRunning) → IsGood config → IsReached config v.into channel b skip → IsBlockSize config v.into channel (length bits) → 0 < length bits → IsLayerOf config v →
    (skip ≤ length bits) × CanTake (entity_at v.bearers b) (length (drop skip bits))
passes config channel b skip bits v good reach size some is =
    let stands : StandsFor config v.out v.into b (is.layer.bearings b) (entity_at v.bearers b) = is.stands.bearers b reach.there in (
      skip_inside config v.out v.into channel b skip bits (is.layer.bearings b) (entity_at v.bearers b) good reach size some stands,
      record {
        config = config;
        out = v.out;
        into = v.into;
        b = b;
        bearing = is.layer.bearings b;
        stands = stands;
        receives = subst (λ (o : Option ℕ). IsSome o) (sym reach.on) refl;
        comes = may_come config v.out v.into channel b skip bits (is.layer.bearings b) (entity_at v.bearers b) good reach size some stands;
      },
    )

-- a block with bits is passed on
pub takes_some : (config : Config) (into : Dir) (channel : ℕ) (bits : List Bit) (layer : Layer) → 0 < length bits → takes_good config into channel bits layer ≡ goes config into channel bits (receiver config into channel bits) layer
takes_some config into channel [] layer some = absurd (omega (arith, some))
takes_some config into channel (bit ∷ bits) layer some = refl

pub some_bits : (n : ℕ) → (n == 0) ≡ false → 0 < n
some_bits zero e = let zero_is : (zero == 0) ≡ true = refl in absurd (cc)
some_bits (suc n) e = omega arith

pub takes_goes : (config : Config) (into : Dir) (channel : ℕ) (bits : List Bit) (to : Demux) (layer : Layer) → 0 < length bits → to ≡ receiver config into channel bits → takes_good config into channel bits layer ≡ goes config into channel bits to layer
takes_goes config into channel bits to layer some is = takes_some config into channel bits layer some ∙ ap (λ (d : Demux). goes config into channel bits d layer) (sym is)
