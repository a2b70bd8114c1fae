-- What layer 2 is after the TTIs of a radio frame have started.
use Rattle.std.proofs.Common.{◌≡◌, ◌<◌, ◌∙◌, ℕ, List, [], Bool, true, cond, ◌&&◌, Option, Some, None, length, arith, refl, sym, ap, subst, ext_get_or}
use Rattle.std.specs.Prelude.{nat_lt}
use Rattle.std.proofs.lemmas.Bool.Decides.{nat_tests}
use Rattle.std.proofs.lemmas.List.FromFn.{get_or-map-range_with_len, length-map-range_with_len}
use Rattle.dch_types.specs.declared.channel.Dir.{Dir}
use Rattle.dch_types.specs.declared.channel.Dir.TheVariants.{Up, Down}
use Rattle.dch_types.specs.declared.config.Config.{Config}
use Rattle.dch_types.specs.Parts.{side_of}
use Rattle.dch_accept.specs.Blocks.{Held}
use Rattle.dch_accept.specs.HeldSets.{held_at}
use Rattle.dch_config.specs.Good.{IsGood}
use Rattle.dch_mac.specs.declared.head.Head.{Head}
use Rattle.dch_mac.specs.Asked.{Asked, asked_of, format_in, starts}
use Rattle.dch_mac.specs.Best.{IsBest}
use Rattle.dch_mac.specs.Offered.{given}
use Rattle.dch_layer2.specs.Bearings.{channel_of, head_of}
use Rattle.dch_layer2.specs.Building.{Gives}
use Rattle.dch_layer2.specs.Layers.{Given, Layer}
use Rattle.dch_layer2.specs.Starting.{asked_in, count_on, given_now, heads_of}
use Rattle.dch_layer2.proofs.Good.{there}
use Rattle.dch_layer2.specs.declared.bearer.Bearer.{Bearer}
use Rattle.dch_layer2.specs.Opening.{IsGiven}
use Rattle.dch_layer2.specs.Sharing.{AreHeads, IsMoment, Moment, asked_by, head_in}
use Rattle.dch_layer2.specs.Standing.{HasStarted, IsLayerOf, Represents}
use Rattle.dch_layer2.specs.Started.{CanStart, HaveStarted, IsAfter, IsBefore, count_to, given_by}
use Rattle.dch_layer2.specs.Values.{LayerRunning}
use Rattle.dch_layer2.proofs.Bits.{given_bits}

-- all that is chosen from
abbrev pub moment_of : Config → LayerRunning → ℕ → List Head → Moment
moment_of config v cfn heads = record { config = config; out = v.out; cfn = cfn; running = v.running; heads = heads; blocked = v.blocked }

pub is_moment : (config : Config) (v : LayerRunning) (cfn : ℕ) (heads : List Head) → IsLayerOf config v → length heads ≡ length v.bearers → IsMoment (moment_of config v cfn heads)
is_moment config v cfn heads is all = record {
  running = is.stands.runs;
  heads = all ∙ is.stands.all;
  blocked = is.stands.listed;
}

one_head : (config : Config) (layer : Layer) (v : LayerRunning) (heads : List Head) (b : ℕ) → Represents config layer v → AreHeads (length v.bearers) v.bearers heads → b < length config.bearers → head_in heads b ≡ head_of config v.out b (layer.bearings b)
one_head config layer v heads b is are l =
    let inside : b < length v.bearers = omega (arith, l, is.all) in
    are.each b inside inside config v.out v.into b (layer.bearings b) (is.bearers b l)

all_heads : (config : Config) (layer : Layer) (v : LayerRunning) (heads : List Head) → Represents config layer v → AreHeads (length v.bearers) v.bearers heads → heads ≡ heads_of config v.out layer
all_heads config layer v heads is are =
    ext_get_or (head_in [] 0) heads (heads_of config v.out layer)
    (are.all ∙ (is.all ∙ sym (length-map-range_with_len (λ b. head_of config v.out b (layer.bearings b)) 0 (length config.bearers))))
    (λ b l. let below : b < length config.bearers = omega (arith, l, are.all, is.all) in
    one_head config layer v heads b is are below ∙ sym (get_or-map-range_with_len (λ c. head_of config v.out c (layer.bearings c)) 0 (length config.bearers) b b (head_in [] 0) below (omega arith)))

asked_same : (config : Config) (layer : Layer) (v : LayerRunning) (cfn : ℕ) (heads : List Head) → Represents config layer v → AreHeads (length v.bearers) v.bearers heads → asked_by (moment_of config v cfn heads) ≡ asked_in config v.out cfn layer
asked_same config layer v cfn heads is are =
    ap (λ hs. asked_of config v.out cfn v.running hs v.blocked) (all_heads config layer v heads is are)
    ∙ (ap (λ r. asked_of config v.out cfn r (heads_of config v.out layer) v.blocked) is.running
    ∙ ap (asked_of config v.out cfn layer.running (heads_of config v.out layer)) is.blocked)

pub is_before : (config : Config) (layer : Layer) (v : LayerRunning) (cfn : ℕ) (heads : List Head) → Represents config layer v → AreHeads (length v.bearers) v.bearers heads → IsBefore (moment_of config v cfn heads) v.into layer.bearings layer.given v.bearers v.given
is_before config layer v cfn heads is are = record {
  standing = record { all = is.all; each = is.bearers };
  bits = is.bits;
  heads = λ b l. one_head config layer v heads b is are l;
  all = is.given_all;
  given = is.given;
}

pub can_start : (config : Config) (v : LayerRunning) (cfn : ℕ) (heads : List Head) → IsLayerOf config v → AreHeads (length v.bearers) v.bearers heads → CanStart (moment_of config v cfn heads) v.bearers v.given
can_start config v cfn heads is are = record { into = v.into; bearings = is.layer.bearings; gave = is.layer.given; before = is_before config is.layer v cfn heads is.stands are }

-- what each bearer builds, and each channel is given
inside_all : (j n : ℕ) → j < n → nat_lt j n ≡ true
inside_all j n l = grind (arith, nat_tests)

channel_there : (config : Config) (dir : Dir) (b i : ℕ) → IsGood config → channel_of config dir b ≡ Some i → i < length (side_of config dir).channels
channel_there config Up b i good e = (good.bearers b (there config Up b i e)).up.there i e
channel_there config Down b i good e = (good.bearers b (there config Down b i e)).down.there i e

count_is : (m : Moment) (c b : ℕ) (o : Option ℕ) → IsGood m.config → channel_of m.config m.out b ≡ o → count_to (asked_by m) c (length (side_of m.config m.out).channels) b o ≡ count_on (asked_by m) c b o
count_is m c b None good e = refl
count_is m c b (Some i) good e = ap (λ d. cond (d && starts (asked_by m) i) (given (asked_by m) i (format_in (asked_by m) c i) b) 0) (inside_all i (length (side_of m.config m.out).channels) (channel_there m.config m.out b i good e))

-- the layer that runs then
abbrev pub with_start : LayerRunning → List Bearer → ℕ → List Held → List Head → LayerRunning
with_start v bearers c given heads = record { out = v.out; into = v.into; bearers = bearers; blocked = v.blocked; running = c; given = given; heads = heads; unit = v.unit }

pub has_started : (config : Config) (cfn : ℕ) (layer : Layer) (v : LayerRunning) (heads : List Head) (c : ℕ) (bearers : List Bearer) (held : List Held) → IsGood config → Represents config layer v → AreHeads (length v.bearers) v.bearers heads → IsBest (asked_by (moment_of config v cfn heads)) c →
    HaveStarted (moment_of config v cfn heads) c (length (side_of config v.out).channels) v.bearers bearers v.given held → HasStarted config cfn layer (with_start v bearers c held heads)
has_started config cfn layer v heads c bearers held good is are best started = record {
  next = next;
  start = record {
    best = subst (λ (asked : Asked). IsBest asked c) same best;
    built = after.built;
    gives = λ b. subst (λ (asked : Asked). Gives config v.out b (count_on asked c b (channel_of config v.out b)) (layer.bearings b) (after.next b) (after.built b)) same
        (subst (λ n. Gives config v.out b n (layer.bearings b) (after.next b) (after.built b)) (count_is m c b (channel_of config v.out b) good refl) (after.gives b));
    given = λ i. ap (λ (asked : Asked). given_now asked c after.built layer i) same;
    blocked = refl;
  };
  stands = record {
    all = started.all_bearers ∙ is.all;
    bearers = after.stands;
    bits = λ b l. given_bits config v.out b (count_to (asked_by m) c (length (side_of config v.out).channels) b (channel_of config v.out b)) (layer.bearings b) (after.next b) (after.built b) (after.gives b) (is.bits b l);
    blocked = is.blocked;
    running = refl;
    runs = best.candidate.there;
    listed = is.listed;
    given_all = started.all ∙ is.given_all;
    given = λ j l. subst (λ (g : Given). IsGiven config v.out j g (held_at held j))
        (ap (λ d. cond (d && starts (asked_by m) j) (given_by (asked_by m) c after.built j) (layer.given j)) (inside_all j (length (side_of config v.out).channels) l)) (after.given j l);
    heads = are.all ∙ is.all;
    room = is.room;
  };
}
  where
    m : Moment
    m = moment_of config v cfn heads

    same : asked_by (moment_of config v cfn heads) ≡ asked_in config v.out cfn layer
    same = asked_same config layer v cfn heads is are

    after : IsAfter (moment_of config v cfn heads) v.into c (length (side_of config v.out).channels) layer.bearings layer.given bearers held
    after = started.after v.into layer.bearings layer.given (is_before config layer v cfn heads is are)

    next : Layer
    next = record { bearings = after.next; blocked = layer.blocked; running = c; given = λ i. given_now (asked_by (moment_of config v cfn heads)) c after.built layer i }

-- with the lists that the code has lent
abbrev moment_with : Config → LayerRunning → ℕ → List Head → List Bool → Moment
moment_with config v cfn heads blocked = record { config = config; out = v.out; cfn = cfn; running = v.running; heads = heads; blocked = blocked }

pub can_start_lent : (config : Config) (v : LayerRunning) (cfn : ℕ) (now heads : List Head) (blocked : List Bool) (bearers : List Bearer) (held : List Held) → IsLayerOf config v → AreHeads (length v.bearers) v.bearers now →
    heads ≡ now → blocked ≡ v.blocked → bearers ≡ v.bearers → held ≡ v.given → CanStart (moment_with config v cfn heads blocked) bearers held
can_start_lent config v cfn now heads blocked bearers held is are hs bl bs gs =
    subst (λ (h : List Head). CanStart (moment_with config v cfn h blocked) bearers held) (sym hs)
    (subst (λ (b : List Bool). CanStart (moment_with config v cfn now b) bearers held) (sym bl)
    (subst (λ (b : List Bearer). CanStart (moment_with config v cfn now v.blocked) b held) (sym bs)
    (subst (λ (g : List Held). CanStart (moment_with config v cfn now v.blocked) v.bearers g) (sym gs) (can_start config v cfn now is are))))

pub has_started_lent : (config : Config) (cfn : ℕ) (layer : Layer) (v : LayerRunning) (now heads : List Head) (blocked : List Bool) (c : ℕ) (lent bearers : List Bearer) (old held : List Held) → IsGood config → Represents config layer v → AreHeads (length v.bearers) v.bearers now →
    heads ≡ now → blocked ≡ v.blocked → lent ≡ v.bearers → old ≡ v.given → IsBest (asked_by (moment_with config v cfn heads blocked)) c → HaveStarted (moment_with config v cfn heads blocked) c (length (side_of config v.out).channels) lent bearers old held →
    HasStarted config cfn layer (with_start v bearers c held now)
has_started_lent config cfn layer v now heads blocked c lent bearers old held good is are hs bl bs gs best started =
    has_started config cfn layer v now c bearers held good is are
    (subst (λ (b : List Bool). IsBest (asked_by (moment_with config v cfn now b)) c) bl (subst (λ (h : List Head). IsBest (asked_by (moment_with config v cfn h blocked)) c) hs best))
    (subst (λ (g : List Held). HaveStarted (moment_with config v cfn now v.blocked) c (length (side_of config v.out).channels) v.bearers bearers g held) gs
    (subst (λ (b : List Bearer). HaveStarted (moment_with config v cfn now v.blocked) c (length (side_of config v.out).channels) b bearers old held) bs
    (subst (λ (b : List Bool). HaveStarted (moment_with config v cfn now b) c (length (side_of config v.out).channels) lent bearers old held) bl
    (subst (λ (h : List Head). HaveStarted (moment_with config v cfn h blocked) c (length (side_of config v.out).channels) lent bearers old held) hs started))))
