-- TTIs start in one way: what layer 2 becomes follows from what it was.
use Rattle.std.proofs.Common.{◌≡◌, ◌∙◌, ◌-◌, ◌*◌, ◌/◌, ◌%◌, ◌++◌, ℕ, zero, suc, List, [], ◌∷◌, Bool, true, cond, Option, Some, None, length, map, replicate, arith, refl, ap, ap₂, sym, subst}
use Rattle.dch_bits.specs.declared.bit.Bit.{Bit}
use Rattle.dch_types.specs.declared.channel.Dir.{Dir}
use Rattle.dch_types.specs.declared.config.Config.{Config}
use Rattle.dch_types.specs.Parts.{format_number}
use Rattle.dch_rlcpdu.specs.Halves.{halves}
use Rattle.dch_rlcpdu.specs.Writing.{IsText}
use Rattle.dch_am.specs.Entities.{IsWritten, Turn, Tells, Moves, Sends as SendsData, Rests, turn, writes}
use Rattle.dch_am.specs.Receiver.{Receiver}
use Rattle.dch_am.specs.Rules.{Rules}
use Rattle.dch_am.specs.Sender.{Discard, Sender}
use Rattle.dch_am.specs.Status.{Told}
use Rattle.dch_am.specs.Telling.{tells_now}
use Rattle.dch_am.specs.Texts.{IsMrw, IsReport}
use Rattle.dch_mac.specs.declared.head.Head.{Head}
use Rattle.dch_mac.specs.Asked.{Asked, asked_of, starts}
use Rattle.dch_mac.specs.Best.{IsBest}
use Rattle.dch_mac.proofs.One.{one_best}
use Rattle.dch_layer2.specs.Bearings.{Bearing, Transparent, Unacknowledged, Acknowledged, channel_of, ct_of, head_of, rules_in}
use Rattle.dch_layer2.specs.Building.{Builds, Gives}
use Rattle.dch_layer2.specs.Layers.{Given, Layer}
use Rattle.dch_layer2.specs.Octets.{block_of, field_for}
use Rattle.dch_layer2.specs.SameLayers.{IsSameLayer}
use Rattle.dch_layer2.specs.Starting.{IsStart, asked_in, count_on, given_now, heads_of, in_turn, joined}

-- octets of a text
first_of : {A : Type 0} (x y : A) (xs ys : List A) → (x ∷ xs) ≡ (y ∷ ys) → x ≡ y
first_of x y xs ys e = cc

rest_of : {A : Type 0} (x y : A) (xs ys : List A) → (x ∷ xs) ≡ (y ∷ ys) → xs ≡ ys
rest_of x y xs ys e = cc

halves_one : (xs ys : List ℕ) → halves ys ≡ halves xs → ys ≡ xs
halves_one [] [] e = refl
halves_one [] (y ∷ ys) e = cc
halves_one (x ∷ xs) [] e = cc
halves_one (x ∷ xs) (y ∷ ys) e =
    let high : y / 16 ≡ x / 16 = first_of (y / 16) (x / 16) (y % 16 ∷ halves ys) (x % 16 ∷ halves xs) e in
    let later : (y % 16 ∷ halves ys) ≡ (x % 16 ∷ halves xs) = rest_of (y / 16) (x / 16) (y % 16 ∷ halves ys) (x % 16 ∷ halves xs) e in
    let low : y % 16 ≡ x % 16 = first_of (y % 16) (x % 16) (halves ys) (halves xs) later in
    let same : y ≡ x = omega (arith, high, low) in
    ap₂ ◌∷◌ same (halves_one xs ys (rest_of (y % 16) (x % 16) (halves ys) (halves xs) later))

text_one : (xs ys text : List ℕ) → length ys ≡ length xs → IsText xs text → IsText ys text → ys ≡ xs
text_one xs ys text long a b = halves_one xs ys (b.is ∙ ap (λ n. text ++ replicate (2 * n - length text) 0) long ∙ sym a.is)

report_one : (xs ys : List ℕ) (o : Option Told) → length ys ≡ length xs → IsReport xs o → IsReport ys o → ys ≡ xs
report_one xs ys None long a b = absurd a.text
report_one xs ys (Some t) long a b = text_one xs ys _ long a.text b.text

mrw_one : (xs ys : List ℕ) (o : Option Discard) → length ys ≡ length xs → IsMrw xs o → IsMrw ys o → ys ≡ xs
mrw_one xs ys None long a b = absurd a
mrw_one xs ys (Some x) long a b = text_one xs ys _ long a.text b.text

written_one : (t : Turn) (rules : Rules) (size : ℕ) (xs ys : List ℕ) (s : Sender) (r : Receiver) → true ≡ writes t → length ys ≡ length xs → IsWritten t rules size xs s r → IsWritten t rules size ys s r → ys ≡ xs
written_one Tells rules size xs ys s r some long a b = report_one xs ys (tells_now (8 * size) r) long a b
written_one Moves rules size xs ys s r some long a b = mrw_one xs ys s.discard long a b
written_one SendsData rules size xs ys s r some long a b = b.0 ∙ sym a.0
written_one Rests rules size xs ys s r some long a b = cc

-- a bearer builds one block
builds_one : (config : Config) (dir : Dir) (b : ℕ) (old next again : Bearing) (block other : List Bit) → Builds config dir b old next block → Builds config dir b old again other → (again ≡ next) × (other ≡ block)
builds_one config dir b (Transparent w us) next again block other x y =
    let both : (y.unit ∷ y.later) ≡ (x.unit ∷ x.later) = sym y.units ∙ x.units in (
      y.next_is ∙ ap (λ (later : List (List Bit)). Transparent (record w { units = later }) us) (rest_of y.unit x.unit y.later x.later both) ∙ sym x.next_is,
      y.block_is ∙ ap (λ (unit : List Bit). field_for (ct_of config dir b) ++ unit) (first_of y.unit x.unit y.later x.later both) ∙ sym x.block_is,
    )
builds_one config dir b (Unacknowledged s r) next again block other x y = (y.next_is ∙ sym x.next_is, y.block_is ∙ sym x.block_is)
builds_one config dir b (Acknowledged s r) next again block other x y =
    let octets : y.octets ≡ x.octets = written_one (turn (rules_in config b) s r) (rules_in config b) _ x.octets y.octets s r x.some (y.long ∙ sym x.long) x.written y.written in
    (y.next_is ∙ sym x.next_is, y.block_is ∙ ap (block_of (ct_of config dir b)) octets ∙ sym x.block_is)

-- and so many blocks
gives_one : (config : Config) (dir : Dir) (b n : ℕ) (old new again : Bearing) (blocks others : List (List Bit)) → Gives config dir b n old new blocks → Gives config dir b n old again others → (again ≡ new) × (others ≡ blocks)
gives_one config dir b zero old new again blocks others x y = (y.0 ∙ sym x.0, y.1 ∙ sym x.1)
gives_one config dir b (suc n) old new again blocks others x y =
    let first = builds_one config dir b old x.next y.next x.block y.block x.first y.first in
    let later = gives_one config dir b n x.next new again x.rest y.rest x.later (subst (λ (o : Bearing). Gives config dir b n o again y.rest) first.0 y.later) in
    (later.0, y.all ∙ ap₂ ◌∷◌ first.1 later.1 ∙ sym x.all)

-- what is chosen from, and the choice
heads_same : (config : Config) (out : Dir) (layer other : Layer) (bs : List ℕ) → IsSameLayer layer other → map (λ b. head_of config out b (other.bearings b)) bs ≡ map (λ b. head_of config out b (layer.bearings b)) bs
heads_same config out layer other [] same = refl
heads_same config out layer other (b ∷ bs) same = ap₂ ◌∷◌ (ap (head_of config out b) (same.bearings b)) (heads_same config out layer other bs same)

asked_same : (config : Config) (out : Dir) (cfn : ℕ) (layer other : Layer) → IsSameLayer layer other → asked_in config out cfn other ≡ asked_in config out cfn layer
asked_same config out cfn layer other same =
    ap (λ n. asked_of config out cfn n (heads_of config out other) other.blocked) same.running
    ∙ ap₂ (λ (heads : List Head) (blocked : List Bool). asked_of config out cfn layer.running heads blocked) (heads_same config out layer other _ same) same.blocked

joined_same : (built other : ℕ → List (List Bit)) (bs : List ℕ) → ((b : ℕ) → other b ≡ built b) → joined other bs ≡ joined built bs
joined_same built other [] same = refl
joined_same built other (b ∷ bs) same = ap₂ (λ (xs ys : List (List Bit)). xs ++ ys) (same b) (joined_same built other bs same)

given_same : (asked : Asked) (c : ℕ) (built other : ℕ → List (List Bit)) (layer older : Layer) (i : ℕ) → ((b : ℕ) → other b ≡ built b) → IsSameLayer layer older
    → given_now asked c other older i ≡ given_now asked c built layer i
given_same asked c built other layer older i same layers =
    ap₂ (λ (blocks : List (List Bit)) (kept : Given). cond (starts asked i) (record { format = format_number asked.side c i; blocks = blocks }) kept) (joined_same built other (in_turn asked i 8) same) (layers.given i)

pub start_same : (config : Config) (out : Dir) (cfn : ℕ) (old new older newer : Layer) → IsSameLayer old older → IsStart config out cfn old new → IsStart config out cfn older newer → IsSameLayer new newer
start_same config out cfn old new older newer same x y = record {
  bearings = λ b. (given b).0;
  blocked = y.blocked ∙ same.blocked ∙ sym x.blocked;
  running = runs;
  given = λ i. y.given i ∙ ap₂ (λ (asked : Asked) c. given_now asked c y.built older i) asks runs
      ∙ given_same (asked_in config out cfn old) new.running x.built y.built old older i (λ b. (given b).1) same ∙ sym (x.given i);
}
  where
    asks : asked_in config out cfn older ≡ asked_in config out cfn old
    asks = asked_same config out cfn old older same

    runs : newer.running ≡ new.running
    runs = one_best (asked_in config out cfn old) new.running newer.running x.best (subst (λ (asked : Asked). IsBest asked newer.running) asks y.best)

    given : (b : ℕ) → (newer.bearings b ≡ new.bearings b) × (y.built b ≡ x.built b)
    given b =
        let count = ap₂ (λ (asked : Asked) c. count_on asked c b (channel_of config out b)) asks runs in
        gives_one config out b (count_on (asked_in config out cfn old) new.running b (channel_of config out b)) (old.bearings b) (new.bearings b) (newer.bearings b) (x.built b) (y.built b) (x.gives b)
        (subst (λ n. Gives config out b n (old.bearings b) (newer.bearings b) (y.built b)) count
        (subst (λ (o : Bearing). Gives config out b (count_on (asked_in config out cfn older) newer.running b (channel_of config out b)) o (newer.bearings b) (y.built b)) (same.bearings b) (y.gives b)))
