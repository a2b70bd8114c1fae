-- What the bearers of an end hold stays limited.
use Rattle.std.proofs.Common.{◌≡◌, ◌<◌, ◌+◌, ◌∙◌, ℕ, List, [], ◌∷◌, Bool, true, false, cond, length, drop, arith, refl, sym, subst}
use Rattle.std.specs.Prelude.{◌==◌}
use Rattle.std.proofs.lemmas.Bool.{eqb-true}
use Rattle.std.proofs.lemmas.List.Elements.{All-head, All-tail}
use Rattle.dch_bits.specs.declared.bit.Bit.{Bit}
use Rattle.dch_types.specs.declared.channel.Dir.{Dir}
use Rattle.dch_types.specs.declared.config.Config.{Config}
use Rattle.dch_types.specs.Parts.{side_of}
use Rattle.dch_config.specs.Changes.{GoesOnAs, KeepsBearer}
use Rattle.dch_config.specs.Good.{IsGood}
use Rattle.dch_mac.specs.declared.answer.Demux.{Demux}
use Rattle.dch_mac.specs.declared.answer.Demux.TheVariants.{To, Reserved as ReservedField, NoBearer as Unknown, Nobody as NoOne}
use Rattle.dch_mac.specs.Receivers.{receiver}
use Rattle.dch_am.specs.Rules.{Rules}
use Rattle.dch_amlaw.specs.Bounded.{IsBoundedReceiver}
use Rattle.dch_layer2.specs.Bearings.{Acknowledged, Bearing, Transparent, Unacknowledged, after_answer, answers, bearer_in, channel_of}
use Rattle.dch_layer2.specs.Hearing.{hears}
use Rattle.dch_layer2.specs.Layers.{Came, Layer, blocks, changed_layer, goes, offers, opened_layer, takes, takes_good, takes_one, ticks, with_bearing}
use Rattle.dch_layer2.specs.Starting.{IsStart, asked_in, count_on}
use Rattle.dch_layer2.proofs.KeptBearings.{kept_rules}
use Rattle.dch_layer2.specs.BoundedBearers.{AreBounded, IsBounded}
use Rattle.dch_layer2.specs.FormatBlocks.{AreBlocks, IsBlock}
use Rattle.dch_layer2.proofs.BoundedBearings.{answer_bounded, bits_bounded, give_bounded, opened_bounded, tick_bounded}
use Rattle.dch_layer2.proofs.PduSizes.{IsReached, may_come, reached}

-- bearer b becomes another one that is limited
with_bounded : (config : Config) (b : ℕ) (new : Bearing) (layer : Layer) → IsBounded config b new → AreBounded config layer → AreBounded config (with_bearing layer b new)
with_bounded config b new layer is are c below = one (c == b) (λ e. eqb-true c b e)
  where
    one : (e : Bool) → (e ≡ true → c ≡ b) → IsBounded config c (cond e new (layer.bearings c))
    one true same = subst (λ n. IsBounded config n new) (sym (same refl)) is
    one false same = are c below

pub offers_bounded : (config : Config) (out : Dir) (b : ℕ) (octets : List ℕ) (bits : List Bit) (layer : Layer) → AreBounded config layer → AreBounded config (offers config out b octets bits layer).layer
offers_bounded config out b octets bits layer are c below = one (c == b) (λ e. eqb-true c b e)
  where
    new : Bearing
    new = after_answer (answers config out b octets bits (layer.bearings b)) octets bits (layer.bearings b)

    one : (e : Bool) → (e ≡ true → c ≡ b) → IsBounded config c (cond e new (layer.bearings c))
    one true same =
        let own : IsBounded config b (layer.bearings b) = subst (λ n. IsBounded config n (layer.bearings n)) (same refl) (are c below) in
        subst (λ n. IsBounded config n new) (sym (same refl)) (answer_bounded config b (answers config out b octets bits (layer.bearings b)) octets bits (layer.bearings b) own)
    one false same = are c below

pub blocks_bounded : (config : Config) (c : ℕ) (on : Bool) (layer : Layer) → AreBounded config layer → AreBounded config (blocks c on layer)
blocks_bounded config c on layer are = are

pub ticks_bounded : (config : Config) (layer : Layer) → AreBounded config layer → AreBounded config (ticks config layer)
ticks_bounded config layer are b below = tick_bounded config b (layer.bearings b) (are b below)

pub start_bounded : (config : Config) (out : Dir) (cfn : ℕ) (old new : Layer) → IsStart config out cfn old new → AreBounded config old → AreBounded config new
start_bounded config out cfn old new is are b below =
    give_bounded config out b (count_on (asked_in config out cfn old) new.running b (channel_of config out b)) (old.bearings b) (new.bearings b) (is.built b) (is.gives b) (are b below)

-- at opening
pub opened_are : (config : Config) (out : Dir) → AreBounded config (opened_layer config out)
opened_are config out b inside = opened_bounded config out b

-- where another configuration becomes active, in which each bearer is kept
kept_bounded : (first second : Config) (b : ℕ) (bearing : Bearing) → GoesOnAs first second (bearer_in first b) (bearer_in second b) → IsBounded first b bearing → IsBounded second b bearing
kept_bounded first second b (Transparent w us) goes is = tt
kept_bounded first second b (Unacknowledged s r) goes is = record { mode = sym goes.alike.mode ∙ is.mode; settled = is.settled }
kept_bounded first second b (Acknowledged s r) goes is = record {
  mode = sym goes.alike.mode ∙ is.mode;
  receiver = subst (λ (rules : Rules). IsBoundedReceiver rules.window r) (sym (kept_rules first second b goes)) is.receiver;
}

pub changed_are : (first second : Config) (out : Dir) (layer : Layer) → ((b : ℕ) → KeepsBearer first second b) → AreBounded first layer → AreBounded second (changed_layer second out layer)
changed_are first second out layer kept are b inside =
    let before : b < length first.bearers = (kept b).there.1 inside in
    kept_bounded first second b (layer.bearings b) ((kept b).same before) (are b before)

-- a good block
goes_bounded : (config : Config) (into : Dir) (channel : ℕ) (bits : List Bit) (layer : Layer) → IsGood config → channel < length (side_of config into).channels → IsBlock config into channel bits → 0 < length bits → AreBounded config layer →
    (to : Demux) → receiver config into channel bits ≡ to → AreBounded config (goes config into channel bits to layer).layer
goes_bounded config into channel bits layer good inside block some are (To b skip) e =
    let reach : IsReached config into channel b skip = reached config into channel bits b skip e in
    let own : IsBounded config b (layer.bearings b) = are b reach.there in
    with_bounded config b (hears config into b (drop skip bits) (layer.bearings b)).bearing layer
    (bits_bounded config into b (drop skip bits) (layer.bearings b) (may_come config into channel b skip bits (layer.bearings b) good inside reach block some own) own) are
goes_bounded config into channel bits layer good inside block some are ReservedField e = are
goes_bounded config into channel bits layer good inside block some are (Unknown ct) e = are
goes_bounded config into channel bits layer good inside block some are NoOne e = are

good_bounded : (config : Config) (into : Dir) (channel : ℕ) (bits : List Bit) (layer : Layer) → IsGood config → channel < length (side_of config into).channels → IsBlock config into channel bits → AreBounded config layer → AreBounded config (takes_good config into channel bits layer).layer
good_bounded config into channel [] layer good inside block are = are
good_bounded config into channel (bit ∷ bits) layer good inside block are = goes_bounded config into channel (bit ∷ bits) layer good inside block (omega arith) are (receiver config into channel (bit ∷ bits)) refl

-- a block
pub one_bounded : (config : Config) (into : Dir) (channel k : ℕ) (bits : List Bit) (fine : Bool) (layer : Layer) → IsGood config → channel < length (side_of config into).channels → IsBlock config into channel bits → AreBounded config layer → AreBounded config (takes_one config into channel k bits fine layer).layer
one_bounded config into channel k bits true layer good inside block are = good_bounded config into channel bits layer good inside block are
one_bounded config into channel k bits false layer good inside block are = are

-- the blocks of a channel
pub all_bounded : (config : Config) (into : Dir) (channel k : ℕ) (came : List Came) (layer : Layer) → IsGood config → channel < length (side_of config into).channels → AreBlocks config into channel came → AreBounded config layer → AreBounded config (takes config into channel k came layer).layer
all_bounded config into channel k [] layer good inside blocks are = are
all_bounded config into channel k (came ∷ later) layer good inside blocks are =
    let first : Layer = (takes_one config into channel k came.bits came.good layer).layer in
    let one : AreBounded config first = one_bounded config into channel k came.bits came.good layer good inside (All-head (λ (x : Came). IsBlock config into channel x.bits) came later blocks) are in
    all_bounded config into channel (k + 1) later first good inside (All-tail (λ (x : Came). IsBlock config into channel x.bits) came later blocks) one
