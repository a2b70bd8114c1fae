-- Bearers that are kept where another configuration becomes active.
use Rattle.std.proofs.Common.{◌≡◌, ◌≢◌, ◌<◌, ◌∙◌, ℕ, Option, Some, None, length, refl, sym, ap, subst}
use Rattle.std.specs.Prelude.{IsSome, is_some, true, false}
use Rattle.dch_types.specs.declared.channel.Dir.{Dir}
use Rattle.dch_types.specs.declared.bearer.Mode.{Mode}
use Rattle.dch_types.specs.declared.bearer.Mode.TheVariants.{Tm as TmMode, Um as UmMode, Am as AmMode}
use Rattle.dch_types.specs.declared.config.Config.{Config}
use Rattle.dch_config.specs.Changes.{GoesOnAs}
use Rattle.dch_config.specs.Good.{IsGood}
use Rattle.dch_rlctm.specs.Waiting.{Waiting}
use Rattle.dch_rlcum.specs.Receiving.{Receiving}
use Rattle.dch_rlcum.specs.Sending.{Sending}
use Rattle.dch_am.specs.Rules.{Rules}
use Rattle.dch_layer2.specs.Bearings.{Bearing, Transparent, Unacknowledged, Acknowledged, bearer_in, channel_of, pdu_octets}
use Rattle.dch_layer2.proofs.KeptBearings.{kept_channel, kept_octets, kept_rules, kept_sizes}
use Rattle.dch_layer2.proofs.Good.{no_field}
use Rattle.dch_layer2.specs.Acknowledged.{AmRunning, HasSides, IsAmShape}
use Rattle.dch_layer2.specs.Shapes.{shape_of}
use Rattle.dch_layer2.specs.BearerStanding.{FitsAm, FitsUm, HoldsReceiving, HoldsSending, HoldsUnits, Represents, StandsAm, StandsUm}
use Rattle.dch_layer2.specs.BearerValues.{FillsBlocks, TmRunning, UmRunning}
use Rattle.dch_layer2.specs.declared.bearer.Bearer.TheVariants.{Tm, Um, Am}
use Rattle.dch_layer2.specs.declared.shape.Shape.{Shape}
use Rattle.dch_layer2.proofs.Fitting.{am_fit, um_filling}

-- bearer b of one configuration goes on as that of the other
abbrev Goes : Config → Config → ℕ → Type 0
Goes first second b = GoesOnAs first second (bearer_in first b) (bearer_in second b)

-- what is held by the channels of a bearer is held where it has others
units_held : (o p : Option ℕ) (w : Waiting) (t : Option Waiting) → is_some p ≡ is_some o → HoldsUnits o w t → HoldsUnits p w t
units_held None None w t same is = is
units_held None (Some j) w t same is = absurd (cc)
units_held (Some i) None w t same is = absurd (cc)
units_held (Some i) (Some j) w None same is = absurd is
units_held (Some i) (Some j) w (Some t) same is = is

sending_held : (o p : Option ℕ) (s : Sending) (t : Option Sending) → is_some p ≡ is_some o → HoldsSending o s t → HoldsSending p s t
sending_held None None s t same is = is
sending_held None (Some j) s t same is = absurd (cc)
sending_held (Some i) None s t same is = absurd (cc)
sending_held (Some i) (Some j) s None same is = absurd is
sending_held (Some i) (Some j) s (Some t) same is = is

receiving_held : (o p : Option ℕ) (r : Receiving) (t : Option Receiving) → is_some p ≡ is_some o → HoldsReceiving o r t → HoldsReceiving p r t
receiving_held None None r t same is = is
receiving_held None (Some j) r t same is = absurd (cc)
receiving_held (Some i) None r t same is = absurd (cc)
receiving_held (Some i) (Some j) r None same is = absurd is
receiving_held (Some i) (Some j) r (Some t) same is = is

-- one that holds what it sends has a channel for that
sends_by : (o : Option ℕ) (s : Sending) (t : Option Sending) → HoldsSending o s t → IsSome t → IsSome o
sends_by None s None is some = some
sends_by None s (Some t) is some = absurd is
sends_by (Some i) s t is some = refl

-- the transparent mode
pub tm_goes_on : (first second : Config) (out into : Dir) (b : ℕ) (bearing : Bearing) (v : TmRunning) → IsGood second → Goes first second b → Represents first out into b bearing (Tm v) → Represents second out into b bearing (Tm v)
tm_goes_on first second out into b (Unacknowledged s r) v good goes is = absurd is
tm_goes_on first second out into b (Acknowledged s r) v good goes is = absurd is
tm_goes_on first second out into b (Transparent w us) v good goes is =
    let mode : (bearer_in second b).mode ≡ TmMode = sym goes.alike.mode ∙ is.mode in
    record {
      mode = mode;
      number = is.number;
      comes_in = is.comes_in;
      sizes = λ n. is.sizes n ∙ sym (kept_sizes first second out b n goes is.mode);
      units = units_held (channel_of first out b) (channel_of second out b) w v.sender (kept_channel first second out b goes) is.units;
      no_field = no_field second out b (channel_of second out b) good refl mode;
    }

-- the unacknowledged mode
um_not : (m : Mode) → m ≡ UmMode → m ≢ TmMode
um_not m e t = let h : ◌≡◌ {A = Mode} UmMode TmMode = sym e ∙ t in cc

pub um_fits_on : (first second : Config) (out into : Dir) (b : ℕ) (bearing : Bearing) (v : UmRunning) → Goes first second b → b < length second.bearers → Represents first out into b bearing (Um v) → FitsUm second out v
um_fits_on first second out into b (Transparent w us) v goes there is = absurd is
um_fits_on first second out into b (Acknowledged s r) v goes there is = absurd is
um_fits_on first second out into b (Unacknowledged s r) v goes there is = record {
  there = subst (λ n. n < length second.bearers) (sym is.number) there;
  mode = ap (λ n. (bearer_in second n).mode) is.number ∙ (sym goes.alike.mode ∙ is.mode);
  octets = ap (pdu_octets second out) is.number ∙ (kept_octets first second out b goes (um_not (bearer_in first b).mode is.mode) ∙ sym (ap (λ (x : Shape). x.octets) is.shape));
  sends = λ some. ap (λ n. is_some (channel_of second out n)) is.number ∙ (kept_channel first second out b goes ∙ sends_by (channel_of first out b) s.sending v.sender is.sending some);
}

pub um_fills : (config : Config) (out : Dir) (v : UmRunning) → IsGood config → FitsUm config out v → FillsBlocks v.shape v.sender → FillsBlocks (shape_of config out v.number) v.sender
um_fills config out v good fits fills = by v.sender fills fits.sends
  where
    on : (s : Sending) → s.pdu ≡ v.shape.octets → (o : Option ℕ) → channel_of config out v.number ≡ o → IsSome o → FillsBlocks (shape_of config out v.number) (Some s)
    on s pdu None e some = let h : false ≡ true = some in absurd (cc)
    on s pdu (Some i) e some = um_filling config out v.number i (shape_of config out v.number) s good e fits.mode refl (pdu ∙ sym fits.octets)

    by : (t : Option Sending) → FillsBlocks v.shape t → (IsSome t → IsSome (channel_of config out v.number)) → FillsBlocks (shape_of config out v.number) t
    by None is sends = tt
    by (Some s) is sends = on s is.octets (channel_of config out v.number) refl (sends refl)

pub um_goes_on : (first second : Config) (out into : Dir) (b : ℕ) (bearing : Bearing) (v now : UmRunning) → Goes first second b → now ≡ record v { shape = shape_of second out v.number } → Represents first out into b bearing (Um v) →
    Represents second out into b bearing (Um now)
um_goes_on first second out into b (Transparent w us) v now goes now_is is = absurd is
um_goes_on first second out into b (Acknowledged s r) v now goes now_is is = absurd is
um_goes_on first second out into b (Unacknowledged s r) v now goes now_is is = subst (λ (x : UmRunning). StandsUm second out into b s r x) (sym now_is) (record {
  mode = sym goes.alike.mode ∙ is.mode;
  number = is.number;
  comes_in = is.comes_in;
  shape = ap (shape_of second out) is.number;
  sending = sending_held (channel_of first out b) (channel_of second out b) s.sending v.sender (kept_channel first second out b goes) is.sending;
  receiving = receiving_held (channel_of first into b) (channel_of second into b) r v.receiver (kept_channel first second into b goes) is.receiving;
})

-- the acknowledged mode
am_not : (m : Mode) → m ≡ AmMode → m ≢ TmMode
am_not m e t = let h : ◌≡◌ {A = Mode} AmMode TmMode = sym e ∙ t in cc

pub am_fits_on : (first second : Config) (out into : Dir) (b : ℕ) (bearing : Bearing) (v : AmRunning) → Goes first second b → b < length second.bearers → Represents first out into b bearing (Am v) → FitsAm second out v
am_fits_on first second out into b (Transparent w us) v goes there is = absurd is
am_fits_on first second out into b (Unacknowledged s r) v goes there is = absurd is
am_fits_on first second out into b (Acknowledged s r) v goes there is = record {
  there = subst (λ n. n < length second.bearers) (sym is.number) there;
  mode = ap (λ n. (bearer_in second n).mode) is.number ∙ (sym goes.alike.mode ∙ is.mode);
  octets = ap (pdu_octets second out) is.number ∙ (kept_octets first second out b goes (am_not (bearer_in first b).mode is.mode) ∙ sym (ap (λ (x : Shape). x.octets) is.shape));
}

pub am_shape : (config : Config) (out : Dir) (v : AmRunning) → IsGood config → FitsAm config out v → IsAmShape v.shape v.entity → IsAmShape (shape_of config out v.number) v.entity
am_shape config out v good fits is = record {
  octets = is.octets ∙ sym fits.octets;
  whole = (am_fit config out v.number good fits.there fits.mode).whole;
  settled = is.settled;
}

pub am_goes_on : (first second : Config) (out into : Dir) (b : ℕ) (bearing : Bearing) (v now : AmRunning) → Goes first second b → now ≡ record v { shape = shape_of second out v.number } → Represents first out into b bearing (Am v) →
    Represents second out into b bearing (Am now)
am_goes_on first second out into b (Transparent w us) v now goes now_is is = absurd is
am_goes_on first second out into b (Unacknowledged s r) v now goes now_is is = absurd is
am_goes_on first second out into b (Acknowledged s r) v now goes now_is is = subst (λ (x : AmRunning). StandsAm second out into b s r x) (sym now_is) (record {
  mode = sym goes.alike.mode ∙ is.mode;
  number = is.number;
  comes_in = is.comes_in;
  shape = ap (shape_of second out) is.number;
  comes = is.comes ∙ sym (kept_octets first second into b goes (am_not (bearer_in first b).mode is.mode));
  sides = subst (λ (rules : Rules). HasSides rules s r (record v { shape = shape_of second out v.number })) (sym (kept_rules first second b goes)) (record { entity = is.sides.entity });
})
