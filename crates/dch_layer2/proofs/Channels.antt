-- A channel that starts is given just the blocks of its format.
use Rattle.std.proofs.Common.{◌≡◌, ◌≢◌, ◌<◌, ◌+◌, ◌-◌, ◌*◌, ◌++◌, ◌∙◌, ℕ, zero, suc, List, [], ◌∷◌, Bool, true, false, cond, ◌&&◌, ◌||◌, Option, Some, None, length, map, arith, refl, sym, ap, subst, ⊎_elim}
use Rattle.std.specs.Prelude.{◌==◌, min, nat_le}
use Rattle.std.specs.List.{range_with_len}
use Rattle.std.proofs.lemmas.Bool.{eqb-true}
use Rattle.std.proofs.lemmas.Bool.Decides.{nat_tests}
use Rattle.std.proofs.lemmas.List.{length-replicate}
use Rattle.std.proofs.lemmas.List.FromFn.{map-range_with_len_more}
use Rattle.dch_bits.specs.declared.bit.Bit.{Bit}
use Rattle.dch_bits.specs.declared.bit.Bit.TheVariants.{Zero}
use Rattle.dch_types.specs.declared.channel.Dir.{Dir}
use Rattle.dch_types.specs.declared.channel.Format.{Format}
use Rattle.dch_types.specs.declared.config.Config.{Config}
use Rattle.dch_types.specs.Limits.{is_idle}
use Rattle.dch_types.specs.Parts.{channel_at, format_at, format_number, side_of}
use Rattle.dch_config.specs.Bearers.{names}
use Rattle.dch_config.specs.Good.{IsGood}
use Rattle.dch_accept.specs.Blocks.{Held, HoldsTtis, block_at, zero_blocks}
use Rattle.dch_rlctm.specs.Waiting.{front_of}
use Rattle.dch_mac.specs.declared.head.Head.{Head}
use Rattle.dch_mac.specs.Asked.{Asked, format_in, starts}
use Rattle.dch_mac.specs.Candidates.{IsCandidate, IsServed, StartsIdle}
use Rattle.dch_mac.specs.Offered.{ahead, given, head_at, offered, waiting}
use Rattle.dch_layer2.specs.Bearings.{Acknowledged, Bearing, Transparent, Unacknowledged, channel_of, head_of}
use Rattle.dch_layer2.specs.Building.{Gives}
use Rattle.dch_layer2.specs.Starting.{blocks_for, in_turn, is_on, joined}
use Rattle.dch_layer2.proofs.Good.{am_fits, um_fits}
use Rattle.dch_layer2.proofs.PduSizes.{side_good}
use Rattle.dch_layer2.specs.BearerStanding.{Represents as StandsFor}
use Rattle.dch_layer2.specs.declared.bearer.Bearer.{Bearer}
use Rattle.dch_layer2.specs.declared.bearer.Bearer.TheVariants.{Tm, Um, Am}
use Rattle.dch_layer2.specs.Sharing.{AreAllServed, AreReady, HasBits, HaveBits, IsShared, Moment, asked_by, built_on, front, head_in}
use Rattle.dch_layer2.specs.Started.{IsChannelStarted}
use Rattle.dch_layer2.specs.Values.{entity_at}
use Rattle.dch_layer2.proofs.Openings.{idle_is_idle}
use Rattle.dch_layer2.proofs.Offers.{gives_none}
use Rattle.dch_layer2.proofs.Sharing.{there_on}
use Rattle.dch_layer2.proofs.Sums.{either, number_same, other_number}
use Rattle.dch_layer2.proofs.Turns.{all_same}

-- the first blocks, one by one
pub front_map : (held : Held) (n : ℕ) → map (block_at held) (range_with_len 0 n) ≡ front held n
front_map held zero = refl
front_map held (suc n) =
    let more : suc n ≡ n + 1 = omega arith in
    ap (λ k. map (block_at held) (range_with_len 0 k)) more ∙ (map-range_with_len_more (block_at held) 0 n n (omega arith) ∙ ap (λ xs. xs ++ block_at held n ∷ []) (front_map held n))

-- a channel that a bearer has
pub on_is : (m : Moment) (i a : ℕ) → is_on (asked_by m) i a ≡ true → channel_of m.config m.out a ≡ Some i
on_is m i a e = named (channel_of m.config m.out a) e
  where
    named : (o : Option ℕ) → names o i ≡ true → o ≡ Some i
    named None e = absurd (cc)
    named (Some j) e = ap (λ (k : ℕ). Some k) (number_same j i e)

-- no bearer offers blocks without bits
front_none : (units : List (List Bit)) → HaveBits units → (front_of units).0 ≡ 0 → (front_of units).1 ≡ 0
front_none [] have e = refl
front_none (u ∷ units) have e = absurd (omega (arith, have.0, e))

pub empty_none : (config : Config) (out into : Dir) (b i : ℕ) (bearing : Bearing) (x : Bearer) → IsGood config → channel_of config out b ≡ Some i → HasBits bearing → StandsFor config out into b bearing x → (head_of config out b bearing).size ≡ 0 → (head_of config out b bearing).count ≡ 0
empty_none config out into b i (Transparent w us) x good on has is none = front_none w.units has.units none
empty_none config out into b i (Unacknowledged s r) (Tm v) good on has is none = absurd is
empty_none config out into b i (Unacknowledged s r) (Um v) good on has is none = let fits = um_fits config out b i good on is.mode in absurd (omega (arith, fits.whole, fits.least, none))
empty_none config out into b i (Unacknowledged s r) (Am v) good on has is none = absurd is
empty_none config out into b i (Acknowledged s r) (Tm v) good on has is none = absurd is
empty_none config out into b i (Acknowledged s r) (Um v) good on has is none = absurd is
empty_none config out into b i (Acknowledged s r) (Am v) good on has is none = let fits = am_fits config out b i good on is.mode in absurd (omega (arith, fits.whole, fits.least, none))

offered_none : (asked : Asked) (i b : ℕ) → ((head_at asked b).size ≡ 0 → (head_at asked b).count ≡ 0) → offered asked i 0 b ≡ 0
unfolding offered
offered_none asked i b none = go (is_on asked i b) ((head_at asked b).size == 0) refl
  where
    go : (c d : Bool) → ((head_at asked b).size == 0) ≡ d → cond (c && d) (head_at asked b).count 0 ≡ 0
    go true true e = none (number_same (head_at asked b).size 0 e)
    go true false e = refl
    go false d e = refl

given_none : (asked : Asked) (i b : ℕ) (format : Format) → format.size ≡ 0 → offered asked i 0 b ≡ 0 → given asked i format b ≡ 0
given_none asked i b format size none =
    ap (λ n. min (offered asked i n b) (format.number - ahead asked i format.size b)) size ∙ (ap (λ n. min n (format.number - ahead asked i format.size b)) none ∙ least (format.number - ahead asked i format.size b))
  where
    least : (n : ℕ) → min 0 n ≡ 0
    least n = grind (arith, nat_tests)

joined_none : (xs : List ℕ) → joined (λ x. []) xs ≡ []
joined_none [] = refl
joined_none (x ∷ xs) = joined_none xs

-- as many blocks wait as the format has
no_number : (number size : ℕ) → size ≢ 0 → number * size ≡ 0 → number ≡ 0
no_number zero size some e = refl
no_number (suc n) size some e = let product : suc n * size ≡ n * size + size = omega arith in absurd (omega (arith, some, e, product))

min_none : (n w : ℕ) → n ≡ 0 → min n w ≡ n
min_none n w e = grind (arith, nat_tests, e)

min_all : (n w : ℕ) → nat_le n w ≡ true → min n w ≡ n
min_all n w e = grind (arith, nat_tests, e)

idle_none : (format : Format) (w : ℕ) → format.size ≢ 0 → is_idle format ≡ true → min format.number w ≡ format.number
idle_none format w some e = min_none format.number w (no_number format.number format.size some (eqb-true (format.number * format.size) 0 e))

found_all : (format : Format) (w : ℕ) → format.size ≢ 0 → (is_idle format || nat_le format.number w) ≡ true → min format.number w ≡ format.number
found_all format w some e = either (is_idle format)
    (λ h. idle_none format w some h)
    (λ h. min_all format.number w (ap (λ c. c || nat_le format.number w) (sym h) ∙ e))

chosen_all : (m : Moment) (c i : ℕ) → IsGood m.config → i < length (side_of m.config m.out).channels → starts (asked_by m) i ≡ true → IsCandidate (asked_by m) c → (format_in (asked_by m) c i).size ≢ 0 →
    min (format_in (asked_by m) c i).number (waiting (asked_by m) i (format_in (asked_by m) c i).size) ≡ (format_in (asked_by m) c i).number
chosen_all m c i good there start candidate some = ⊎_elim
    (λ (served : IsServed (asked_by m) c). found_all (format_in (asked_by m) c i) (waiting (asked_by m) i (format_in (asked_by m) c i).size) some (served.found i there start))
    (λ (idle : StartsIdle (asked_by m) c). idle_none (format_in (asked_by m) c i) (waiting (asked_by m) i (format_in (asked_by m) c i).size) some
    (ap (λ f. is_idle (format_at (channel_at (side_of m.config m.out) i) f)) (idle i there start) ∙ idle_is_idle (channel_at (side_of m.config m.out) i) ((side_good m.config m.out good).channels i there)))
    candidate.may

-- what the channel is given
pub channel_started : (m : Moment) (into : Dir) (c i number room : ℕ) (format : Format) (bearings : ℕ → Bearing) (old new : List Bearer) (x y : Held) → IsGood m.config → i < length (side_of m.config m.out).channels → starts (asked_by m) i ≡ true → IsCandidate (asked_by m) c →
    number ≡ format_number (side_of m.config m.out) c i → number < length (channel_at (side_of m.config m.out) i).formats → format ≡ format_at (channel_at (side_of m.config m.out) i) number → HoldsTtis (side_of m.config m.out) room →
    x.format ≡ number → x.size ≡ format.size → length x.good ≡ format.number → length x.bits ≡ format.number * format.size → x.room ≡ room → AreReady m i into bearings old → AreAllServed m i format old new x y → IsChannelStarted m into c i bearings new y
channel_started m into c i number room format bearings old new x y good there start candidate number_is inside format_is holds x_format x_size x_good x_bits x_room ready served = record {
  next = s.next;
  built = s.built;
  gives = λ a. subst (λ (f : Format). Gives m.config m.out a (built_on (asked_by m) i f a) (bearings a) (s.next a) (s.built a)) chosen (s.gives a);
  stands = s.stands;
  given = record {
    number = served.shape.format ∙ (x_format ∙ number_is);
    blocks = blocks (y.size == 0) refl;
    format = record {
      there = subst (λ (f : ℕ). f < length (channel_at (side_of m.config m.out) i).formats) (sym named) inside;
      size = served.shape.size ∙ (x_size ∙ ap (λ (f : Format). f.size) at);
      count = ap length served.shape.good ∙ (x_good ∙ ap (λ (f : Format). f.number) at);
      long = served.shape.long ∙ (x_bits ∙ ap (λ (f : Format). f.number * f.size) at);
    };
    room = subst (HoldsTtis (side_of m.config m.out)) (sym (served.shape.room ∙ x_room)) holds;
  };
}
  where
    s : IsShared m into (built_on (asked_by m) i format) (in_turn (asked_by m) i 8) (min format.number (waiting (asked_by m) i format.size)) bearings new y
    s = served.shared into bearings ready.standing

    named : y.format ≡ number
    named = served.shape.format ∙ x_format

    chosen : format ≡ format_in (asked_by m) c i
    chosen = format_is ∙ ap (format_at (channel_at (side_of m.config m.out) i)) number_is

    at : format ≡ format_at (channel_at (side_of m.config m.out) i) y.format
    at = format_is ∙ ap (format_at (channel_at (side_of m.config m.out) i)) (sym named)

    size : y.size ≡ format.size
    size = served.shape.size ∙ x_size

    no_block : y.size ≡ 0 → (a : ℕ) → is_on (asked_by m) i a ≡ true → s.built a ≡ []
    no_block e a on =
        let here : a < length m.config.bearers = there_on m i a on in
        let head : head_in m.heads a ≡ head_of m.config m.out a (bearings a) = ready.heads a here on in
        let none : (head_in m.heads a).size ≡ 0 → (head_in m.heads a).count ≡ 0 = λ z. ap (λ (h : Head). h.count) head ∙ empty_none m.config m.out into a i (bearings a) (entity_at old a) good (on_is m i a on) (ready.bits a here) (ready.standing.each a here) (ap (λ (h : Head). h.size) (sym head) ∙ z) in
        let zero_is : built_on (asked_by m) i format a ≡ 0 = ap (λ d. cond d (given (asked_by m) i format a) 0) on ∙ given_none (asked_by m) i a format (sym size ∙ e) (offered_none (asked_by m) i a none) in
        gives_none m.config m.out a (bearings a) (s.next a) (s.built a) (subst (λ n. Gives m.config m.out a n (bearings a) (s.next a) (s.built a)) zero_is (s.gives a))

    blocks : (d : Bool) → (y.size == 0) ≡ d → cond d [] (map (block_at y) (range_with_len 0 (length y.good))) ≡ blocks_for (asked_by m) s.built i
    blocks true e = sym (all_same (asked_by m) i s.built (λ a. []) (no_block (number_same y.size 0 e)) ∙ joined_none (in_turn (asked_by m) i 8))
    blocks false e =
        let some : format.size ≢ 0 = λ z. other_number y.size 0 e (size ∙ z) in
        let all : min format.number (waiting (asked_by m) i format.size) ≡ format.number = subst (λ (f : Format). min f.number (waiting (asked_by m) i f.size) ≡ f.number) (sym chosen) (chosen_all m c i good there start candidate (λ z. some (ap (λ (f : Format). f.size) chosen ∙ z))) in
        let count : length y.good ≡ min format.number (waiting (asked_by m) i format.size) = ap length served.shape.good ∙ (x_good ∙ sym all) in
        front_map y (length y.good) ∙ (ap (front y) count ∙ s.filled)

-- where its blocks were shaped
pub channel_shaped : (m : Moment) (into : Dir) (c i number room : ℕ) (format : Format) (bearings : ℕ → Bearing) (old new : List Bearer) (x y : Held) → IsGood m.config → i < length (side_of m.config m.out).channels → starts (asked_by m) i ≡ true → IsCandidate (asked_by m) c →
    number ≡ format_number (side_of m.config m.out) c i → number < length (channel_at (side_of m.config m.out) i).formats → format ≡ format_at (channel_at (side_of m.config m.out) i) number → HoldsTtis (side_of m.config m.out) room →
    x ≡ zero_blocks number (format_at (channel_at (side_of m.config m.out) i) number) room → AreReady m i into bearings old → AreAllServed m i format old new x y → IsChannelStarted m into c i bearings new y
channel_shaped m into c i number room format bearings old new x y good there start candidate number_is inside format_is holds shaped ready served =
    let it : Format = format_at (channel_at (side_of m.config m.out) i) number in
    channel_started m into c i number room format bearings old new x y good there start candidate number_is inside format_is holds
    (ap (λ (h : Held). h.format) shaped)
    (ap (λ (h : Held). h.size) shaped ∙ ap (λ (f : Format). f.size) (sym format_is))
    (ap (λ (h : Held). length h.good) shaped ∙ (length-replicate it.number true ∙ ap (λ (f : Format). f.number) (sym format_is)))
    (ap (λ (h : Held). length h.bits) shaped ∙ (length-replicate (it.number * it.size) Zero ∙ ap (λ (f : Format). f.number * f.size) (sym format_is)))
    (ap (λ (h : Held). h.room) shaped)
    ready served
