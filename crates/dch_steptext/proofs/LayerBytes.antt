-- What layer 2 of an end tells comes out of the bytes of what its bearers hold and of the blocks that come.
use Rattle.std.proofs.Common.{◌≡◌, ◌≢◌, ◌<◌, ◌≤◌, ◌+◌, ◌*◌, ◌++◌, ℕ, zero, suc, List, [], ◌∷◌, Bool, true, false, cond, length, drop, arith, refl, ap, sym, subst, inl, inr}
use Rattle.std.specs.Prelude.{◌==◌}
use Rattle.std.proofs.lemmas.Bool.{cases_lt, eq-eqb, eqb-true}
use Rattle.std.proofs.lemmas.List.Elements.{All-head, All-tail}
use Rattle.dch_bits.specs.declared.bit.Bit.{Bit}
use Rattle.dch_bits.specs.declared.offer.Offer.{Offer}
use Rattle.dch_bits.specs.declared.offer.Offer.TheVariants.{Accepted, Full, WrongSize}
use Rattle.dch_types.specs.declared.channel.Dir.{Dir}
use Rattle.dch_types.specs.declared.config.Config.{Config}
use Rattle.dch_types.specs.Parts.{side_of}
use Rattle.dch_types.specs.Sums.{total}
use Rattle.dch_types.proofs.Sums.{total_le, total_none, total_same, total_small}
use Rattle.dch_layer2.specs.ConfigGood.{IsGood}
use Rattle.dch_indication.specs.Lines.{Line, Bad, Full as NoRoom, NoBearer, Nobody, Reserved, Took, Wrong}
use Rattle.dch_layer2.specs.answer.Demux.{Demux}
use Rattle.dch_layer2.specs.answer.Demux.TheVariants.{To, Reserved as ReservedField, NoBearer as Unknown, Nobody as NoOne}
use Rattle.dch_layer2.specs.Receivers.{receiver}
use Rattle.dch_script.specs.LineText.{text_of}
use Rattle.dch_layer2.specs.Bearings.{Bearing, after_answer, answers, channel_of, line_of_answer}
use Rattle.dch_layer2.specs.Hearing.{hears}
use Rattle.dch_layer2.specs.Layers.{Came, Layer, Outcome, blocks, goes, offers, opened_layer, takes, takes_good, takes_one, ticks, with_bearing}
use Rattle.dch_layer2.specs.Starting.{IsStart, asked_in, count_on}
use Rattle.dch_layer2.specs.BoundedBearers.{AreBounded}
use Rattle.dch_layer2.specs.FormatBlocks.{AreBlocks, IsBlock}
use Rattle.dch_layer2.proofs.BoundedLayers.{one_bounded}
use Rattle.dch_layer2.proofs.PduSizes.{IsReached, channel_small, logical_small, may_come, reached}
use Rattle.dch_steptext.specs.Bytes.{bearing_bytes, layer_bytes}
use Rattle.dch_steptext.specs.Limits.{HasFewWords}
use Rattle.dch_steptext.proofs.BearingBytes.{HoldsAsMuch, IsPaid, answer_holds, bearing_few, bits_paid, give_holds, opened_bytes, tick_holds}
use Rattle.dch_steptext.proofs.Texts.{short_line, text_long}

-- the layer holds as much as before
abbrev pub HoldsSame : Config → Layer → Layer → Type 0
HoldsSame config old new = layer_bytes config new ≡ layer_bytes config old

pub all_hold : (config : Config) (old new : Layer) → ((b : ℕ) → HoldsAsMuch config b (old.bearings b) (new.bearings b)) → HoldsSame config old new
all_hold config old new each = total_same (λ b. bearing_bytes config b (new.bearings b)) (λ b. bearing_bytes config b (old.bearings b)) (length config.bearers) (λ b inside. each b)

pub offers_hold : (config : Config) (out : Dir) (b : ℕ) (octets : List ℕ) (bits : List Bit) (layer : Layer) → HoldsSame config layer (offers config out b octets bits layer).layer
offers_hold config out b octets bits layer = all_hold config layer (offers config out b octets bits layer).layer (λ c. pick c (c == b) (λ e. eqb-true c b e))
  where
    new : Bearing
    new = after_answer (answers config out b octets bits (layer.bearings b)) octets bits (layer.bearings b)

    here : HoldsAsMuch config b (layer.bearings b) new
    here = answer_holds config b (answers config out b octets bits (layer.bearings b)) octets bits (layer.bearings b)

    pick : (c : ℕ) (e : Bool) → (e ≡ true → c ≡ b) → HoldsAsMuch config c (layer.bearings c) (cond e new (layer.bearings c))
    pick c true is = subst (λ n. HoldsAsMuch config n (layer.bearings n) new) (sym (is refl)) here
    pick c false is = refl

pub blocks_hold : (config : Config) (c : ℕ) (on : Bool) (layer : Layer) → HoldsSame config layer (blocks c on layer)
blocks_hold config c on layer = refl

pub ticks_hold : (config : Config) (layer : Layer) → HoldsSame config layer (ticks config layer)
ticks_hold config layer = all_hold config layer (ticks config layer) (λ b. tick_holds config b (layer.bearings b))

pub start_holds : (config : Config) (out : Dir) (cfn : ℕ) (old new : Layer) → IsStart config out cfn old new → HoldsSame config old new
start_holds config out cfn old new is = all_hold config old new (λ b. give_holds config out b (count_on (asked_in config out cfn old) new.running b (channel_of config out b)) (old.bearings b) (new.bearings b) (is.built b) (is.gives b))

-- at opening
pub opened_none : (config : Config) (out : Dir) → layer_bytes config (opened_layer config out) ≡ 0
opened_none config out = total_none (λ b. bearing_bytes config b ((opened_layer config out).bearings b)) (length config.bearers) (λ b. opened_bytes config out b)

-- how much all bearers hold at most
pub layer_few : (config : Config) (layer : Layer) → IsGood config → AreBounded config layer → layer_bytes config layer ≤ length config.bearers * 2400000
layer_few config layer good are = omega (
  arith,
  total_le (λ b. bearing_bytes config b (layer.bearings b)) (λ b. 2400000) (length config.bearers) (λ b inside. bearing_few config b (layer.bearings b) good inside (are b inside)),
  total_small (λ b. 2400000) (length config.bearers) 2400000 (λ b. omega arith),
)

-- one number changes, and pays
one_pays : (v w : ℕ → ℕ) (b paid more n : ℕ) → ((c : ℕ) → c ≢ b → w c ≡ v c) → b < n → paid + w b ≤ v b + more → paid + total w n ≤ total v n + more
unfolding total
one_pays v w b paid more zero other inside here = absurd (omega (arith, inside))
one_pays v w b paid more (suc n) other inside here = elim (cases_lt b n) [
  | inl before ↦ omega (arith, one_pays v w b paid more n other before here, other n (λ e. omega (arith, e, before)))
  | inr last ↦
      let same : b ≡ n = omega (arith, inside, last) in
      omega (arith, here, ap w same, ap v same, total_same w v n (λ c less. other c (λ e. omega (arith, e, less, same))))
]

-- lines and the layer after them: they are paid out of what the layer held and of so many bytes
abbrev pub IsTaken : Config → Layer → Outcome → ℕ → Type 0
IsTaken config old o bytes = length (text_of o.lines) + layer_bytes config o.layer ≤ layer_bytes config old + bytes

-- nothing is told, and the layer stays; or a line of a few words is
pub none_told : (config : Config) (layer : Layer) → IsTaken config layer (record { layer = layer; lines = [] }) 0
none_told config layer = omega arith

pub short_told : (config : Config) (line : Line) (layer : Layer) → HasFewWords line → IsTaken config layer (record { layer = layer; lines = line ∷ [] }) 40
short_told config line layer short = omega (arith, short_line line short)

-- of more bytes it is paid too, and two after another of the bytes of both
pub of_more : (config : Config) (old : Layer) (o : Outcome) (m n : ℕ) → m ≤ n → IsTaken config old o m → IsTaken config old o n
of_more config old o m n less is = omega (arith, is, less)

pub of_both : (config : Config) (old : Layer) (first second : Outcome) (m n : ℕ) → IsTaken config old first m → IsTaken config first.layer second n → IsTaken config old (record { layer = second.layer; lines = first.lines ++ second.lines }) (m + n)
of_both config old first second m n one two = omega (arith, one, two, text_long first.lines second.lines)

-- a bearer of the layer takes it
bearer_takes : (config : Config) (b : ℕ) (new : Bearing) (lines : List Line) (layer : Layer) → b < length config.bearers → IsPaid config b (layer.bearings b) new lines → IsTaken config layer (record { layer = with_bearing layer b new; lines = lines }) 5200
bearer_takes config b new lines layer inside is =
    one_pays (λ c. bearing_bytes config c (layer.bearings c)) (λ c. bearing_bytes config c (cond (c == b) new (layer.bearings c))) b (length (text_of lines)) 5200 (length config.bearers) other inside here
  where
    at : (c : ℕ) (e : Bool) → (e ≡ true → c ≡ b) → c ≢ b → bearing_bytes config c (cond e new (layer.bearings c)) ≡ bearing_bytes config c (layer.bearings c)
    at c true same differs = absurd (differs (same refl))
    at c false same differs = refl

    other : (c : ℕ) → c ≢ b → bearing_bytes config c (cond (c == b) new (layer.bearings c)) ≡ bearing_bytes config c (layer.bearings c)
    other c differs = at c (c == b) (λ e. eqb-true c b e) differs

    self : bearing_bytes config b (cond (b == b) new (layer.bearings b)) ≡ bearing_bytes config b new
    self = ap (λ e. bearing_bytes config b (cond e new (layer.bearings b))) (eq-eqb b b refl)

    here : length (text_of lines) + bearing_bytes config b (cond (b == b) new (layer.bearings b)) ≤ bearing_bytes config b (layer.bearings b) + 5200
    here = omega (arith, is, self)

-- a line of a few words on a block
said : (config : Config) (line : Line) (layer : Layer) → HasFewWords line → IsTaken config layer (record { layer = layer; lines = line ∷ [] }) 5200
said config line layer short = of_more config layer (record { layer = layer; lines = line ∷ [] }) 40 5200 (omega arith) (short_told config line layer short)

-- the line on an offer
pub answer_line : (dir : Dir) (b : ℕ) (answer : Offer) → b < 1000 → length (text_of (line_of_answer dir b answer ∷ [])) ≤ 40
answer_line dir b Accepted small = short_line (Took dir b) small
answer_line dir b Full small = short_line (NoRoom dir b) small
answer_line dir b WrongSize small = short_line (Wrong dir b) small

pub offer_line : (config : Config) (out : Dir) (b : ℕ) (octets : List ℕ) (bits : List Bit) (layer : Layer) → b < 1000 → length (text_of (offers config out b octets bits layer).lines) ≤ 40
offer_line config out b octets bits layer small = answer_line out b (answers config out b octets bits (layer.bearings b)) small

-- a good block
goes_taken : (config : Config) (into : Dir) (channel : ℕ) (bits : List Bit) (layer : Layer) → IsGood config → channel < length (side_of config into).channels → IsBlock config into channel bits → 0 < length bits → AreBounded config layer →
    (to : Demux) → receiver config into channel bits ≡ to → IsTaken config layer (goes config into channel bits to layer) 5200
goes_taken config into channel bits layer good inside block some are (To b skip) e =
    let reach : IsReached config into channel b skip = reached config into channel bits b skip e in
    let small : b < 100 = omega (arith, reach.there, good.few) in
    bearer_takes config b (hears config into b (drop skip bits) (layer.bearings b)).bearing (hears config into b (drop skip bits) (layer.bearings b)).lines layer reach.there
    (bits_paid config into b (drop skip bits) (layer.bearings b) small (may_come config into channel b skip bits (layer.bearings b) good inside reach block some (are b reach.there)) (are b reach.there))
goes_taken config into channel bits layer good inside block some are ReservedField e = said config (Reserved into channel) layer (omega (arith, channel_small config into channel good inside))
goes_taken config into channel bits layer good inside block some are (Unknown ct) e = said config (NoBearer into channel ct) layer (omega (arith, channel_small config into channel good inside), logical_small config into channel bits ct e)
goes_taken config into channel bits layer good inside block some are NoOne e = said config (Nobody into channel) layer (omega (arith, channel_small config into channel good inside))

good_taken : (config : Config) (into : Dir) (channel : ℕ) (bits : List Bit) (layer : Layer) → IsGood config → channel < length (side_of config into).channels → IsBlock config into channel bits → AreBounded config layer → IsTaken config layer (takes_good config into channel bits layer) 5200
good_taken config into channel [] layer good inside block are = of_more config layer (record { layer = layer; lines = [] }) 0 5200 (omega arith) (none_told config layer)
good_taken config into channel (bit ∷ bits) layer good inside block are = goes_taken config into channel (bit ∷ bits) layer good inside block (omega arith) are (receiver config into channel (bit ∷ bits)) refl

-- a block
pub one_taken : (config : Config) (into : Dir) (channel k : ℕ) (bits : List Bit) (fine : Bool) (layer : Layer) → IsGood config → channel < length (side_of config into).channels → k < 1000 → IsBlock config into channel bits → AreBounded config layer → IsTaken config layer (takes_one config into channel k bits fine layer) 5200
one_taken config into channel k bits true layer good inside few block are = good_taken config into channel bits layer good inside block are
one_taken config into channel k bits false layer good inside few block are = said config (Bad into channel k) layer (omega (arith, channel_small config into channel good inside), few)

-- the blocks of a channel
pub all_taken : (config : Config) (into : Dir) (channel k : ℕ) (came : List Came) (layer : Layer) → IsGood config → channel < length (side_of config into).channels → k + length came ≤ 1000 → AreBlocks config into channel came → AreBounded config layer → IsTaken config layer (takes config into channel k came layer) (length came * 5200)
all_taken config into channel k [] layer good inside few blocks are = none_told config layer
all_taken config into channel k (came ∷ later) layer good inside few blocks are =
    let first : Outcome = takes_one config into channel k came.bits came.good layer in
    let block : IsBlock config into channel came.bits = All-head (λ (x : Came). IsBlock config into channel x.bits) came later blocks in
    let one : IsTaken config layer first 5200 = one_taken config into channel k came.bits came.good layer good inside (omega (arith, few)) block are in
    let rest : IsTaken config first.layer (takes config into channel (k + 1) later first.layer) (length later * 5200) = all_taken config into channel (k + 1) later first.layer good inside (omega (arith, few)) (All-tail (λ (x : Came). IsBlock config into channel x.bits) came later blocks) (one_bounded config into channel k came.bits came.good layer good inside block are) in
    of_more config layer (takes config into channel k (came ∷ later) layer) (5200 + length later * 5200) (length (came ∷ later) * 5200) (omega arith)
    (of_both config layer first (takes config into channel (k + 1) later first.layer) 5200 (length later * 5200) one rest)
