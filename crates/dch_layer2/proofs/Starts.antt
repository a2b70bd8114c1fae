-- The channels that start, one after another.
use Rattle.std.proofs.Common.{◌≡◌, ◌≢◌, ◌<◌, ◌+◌, ◌∙◌, ℕ, List, [], Bool, true, false, cond, ◌&&◌, Option, Some, None, length, set, arith, refl, sym, ap, subst, length-set, get_or-set_same, get_or-set_other}
use Rattle.std.specs.Prelude.{◌==◌, nat_lt}
use Rattle.std.proofs.lemmas.Bool.Decides.{nat_tests}
use Rattle.dch_bits.specs.declared.bit.Bit.{Bit}
use Rattle.dch_types.specs.declared.channel.Dir.{Dir}
use Rattle.dch_types.specs.Parts.{side_of}
use Rattle.dch_config.specs.Bearers.{names}
use Rattle.dch_accept.specs.Blocks.{Held}
use Rattle.dch_accept.specs.HeldSets.{held_at}
use Rattle.dch_mac.specs.Asked.{Asked, format_in, starts}
use Rattle.dch_mac.specs.Offered.{given}
use Rattle.dch_layer2.specs.Bearings.{Bearing, channel_of, head_of}
use Rattle.dch_layer2.specs.Building.{Gives}
use Rattle.dch_layer2.specs.Layers.{Given}
use Rattle.dch_layer2.specs.Starting.{is_on}
use Rattle.dch_layer2.specs.declared.bearer.Bearer.{Bearer}
use Rattle.dch_layer2.specs.Opening.{IsGiven}
use Rattle.dch_layer2.specs.Sharing.{AreReady, CanShare, Moment, asked_by, built_on}
use Rattle.dch_layer2.specs.Started.{CanStart, HaveStarted, IsAfter, IsBefore, IsChannelStarted, count_to, given_by, given_to, is_started}
use Rattle.dch_layer2.proofs.Bits.{given_bits}
use Rattle.dch_layer2.proofs.Channels.{on_is}
use Rattle.dch_layer2.proofs.Sums.{either, number_same, other_number}
use Rattle.dch_layer2.proofs.Turns.{all_same}

-- tests of places
none_before : (j : ℕ) → nat_lt j 0 ≡ false
none_before j = grind (arith, nat_tests)

not_self : (i : ℕ) → nat_lt i i ≡ false
not_self i = grind (arith, nat_tests)

self_next : (i : ℕ) → nat_lt i (i + 1) ≡ true
self_next i = grind (arith, nat_tests)

other_next : (j i : ℕ) → j ≢ i → nat_lt j (i + 1) ≡ nat_lt j i
other_next j i differ = either (nat_lt j i)
    (λ e. let x : nat_lt j (i + 1) ≡ true = grind (arith, nat_tests) in x ∙ sym e)
    (λ e. let x : nat_lt j (i + 1) ≡ false = grind (arith, nat_tests) in x ∙ sym e)

-- at the start
count_none : (asked : Asked) (c a : ℕ) (o : Option ℕ) → count_to asked c 0 a o ≡ 0
count_none asked c a None = refl
count_none asked c a (Some j) = ap (λ d. cond (d && starts asked j) (given asked j (format_in asked c j) a) 0) (none_before j)

pub none_started : (m : Moment) (c : ℕ) (bearers : List Bearer) (held : List Held) → HaveStarted m c 0 bearers bearers held held
none_started m c bearers held = record {
  all_bearers = refl;
  all = refl;
  after = λ into bearings given_before before. record {
    next = bearings;
    built = λ a. [];
    gives = λ a. subst (λ n. Gives m.config m.out a n (bearings a) (bearings a) []) (sym (count_none (asked_by m) c a (channel_of m.config m.out a))) (refl, refl);
    stands = before.standing.each;
    given = λ j less. subst (λ (g : Given). IsGiven m.config m.out j g (held_at held j)) (sym (ap (λ d. cond (d && starts (asked_by m) j) (given_by (asked_by m) c (λ a. []) j) (given_before j)) (none_before j))) (before.given j less);
  };
}

-- a channel that doesn't start
skip_is : (asked : Asked) (i j : ℕ) → starts asked i ≡ false → is_started asked i j ≡ is_started asked (i + 1) j
skip_is asked i j e = either (j == i)
    (λ s. let same : j ≡ i = number_same j i s in
    let f : starts asked j ≡ false = ap (starts asked) same ∙ e in
    ap (λ d. nat_lt j i && d) f ∙ (never (nat_lt j i) ∙ sym (ap (λ d. nat_lt j (i + 1) && d) f ∙ never (nat_lt j (i + 1)))))
    (λ s. ap (λ d. d && starts asked j) (sym (other_next j i (other_number j i s))))
  where
    never : (d : Bool) → (d && false) ≡ false
    never true = refl
    never false = refl

skip_count : (asked : Asked) (c i a : ℕ) (o : Option ℕ) → starts asked i ≡ false → count_to asked c i a o ≡ count_to asked c (i + 1) a o
skip_count asked c i a None e = refl
skip_count asked c i a (Some j) e = ap (λ d. cond d (given asked j (format_in asked c j) a) 0) (skip_is asked i j e)

pub skip_started : (m : Moment) (c i : ℕ) (old new : List Bearer) (x y : List Held) → starts (asked_by m) i ≡ false → HaveStarted m c i old new x y → HaveStarted m c (i + 1) old new x y
skip_started m c i old new x y e started = record {
  all_bearers = started.all_bearers;
  all = started.all;
  after = λ into bearings given_before before.
      let s = started.after into bearings given_before before in
      record {
        next = s.next;
        built = s.built;
        gives = λ a. subst (λ n. Gives m.config m.out a n (bearings a) (s.next a) (s.built a)) (skip_count (asked_by m) c i a (channel_of m.config m.out a) e) (s.gives a);
        stands = s.stands;
        given = λ j less. subst (λ (g : Given). IsGiven m.config m.out j g (held_at y j)) (ap (λ d. cond d (given_by (asked_by m) c s.built j) (given_before j)) (skip_is (asked_by m) i j e)) (s.given j less);
      };
}

-- a channel that starts: its bearers still offer what they did
on_count : (m : Moment) (c i a : ℕ) → is_on (asked_by m) i a ≡ true → count_to (asked_by m) c i a (channel_of m.config m.out a) ≡ 0
on_count m c i a on = ap (count_to (asked_by m) c i a) (on_is m i a on) ∙ ap (λ d. cond (d && starts (asked_by m) i) (given (asked_by m) i (format_in (asked_by m) c i) a) 0) (not_self i)

pub start_ready : (m : Moment) (into : Dir) (c i : ℕ) (bearings : ℕ → Bearing) (given_before : ℕ → Given) (old new : List Bearer) (x y : List Held) → IsBefore m into bearings given_before old x → length new ≡ length old →
    (s : IsAfter m into c i bearings given_before new y) → AreReady m i into s.next new
start_ready m into c i bearings given_before old new x y before all s = record {
  standing = record { all = all ∙ before.standing.all; each = s.stands };
  bits = λ b l. given_bits m.config m.out b (count_to (asked_by m) c i b (channel_of m.config m.out b)) (bearings b) (s.next b) (s.built b) (s.gives b) (before.bits b l);
  heads = λ b l on.
      let none : Gives m.config m.out b 0 (bearings b) (s.next b) (s.built b) = subst (λ n. Gives m.config m.out b n (bearings b) (s.next b) (s.built b)) (on_count m c i b on) (s.gives b) in
      before.heads b l ∙ ap (head_of m.config m.out b) (sym none.0);
}

pub start_can : (m : Moment) (c i : ℕ) (old new : List Bearer) (x y : List Held) → CanStart m old x → HaveStarted m c i old new x y → CanShare m i new
start_can m c i old new x y can started =
    let s = started.after can.into can.bearings can.gave can.before in
    record { into = can.into; bearings = s.next; ready = start_ready m can.into c i can.bearings can.gave old new x y can.before started.all_bearers s }

-- and afterwards its blocks are given
next_on : (m : Moment) (c i a : ℕ) → starts (asked_by m) i ≡ true → is_on (asked_by m) i a ≡ true → built_on (asked_by m) i (format_in (asked_by m) c i) a ≡ count_to (asked_by m) c (i + 1) a (channel_of m.config m.out a)
next_on m c i a start on =
    ap (λ d. cond d (given (asked_by m) i (format_in (asked_by m) c i) a) 0) on
    ∙ sym (ap (count_to (asked_by m) c (i + 1) a) (on_is m i a on)
    ∙ (ap (λ d. cond (d && starts (asked_by m) i) (given (asked_by m) i (format_in (asked_by m) c i) a) 0) (self_next i)
    ∙ ap (λ d. cond d (given (asked_by m) i (format_in (asked_by m) c i) a) 0) start))

next_off : (asked : Asked) (c i a : ℕ) (o : Option ℕ) → names o i ≡ false → count_to asked c i a o ≡ count_to asked c (i + 1) a o
next_off asked c i a None e = refl
next_off asked c i a (Some j) e = ap (λ d. cond (d && starts asked j) (given asked j (format_in asked c j) a) 0) (sym (other_next j i (other_number j i e)))

-- a bearer is on no other channel
not_both : (m : Moment) (i j a : ℕ) → j ≢ i → is_on (asked_by m) j a ≡ true → is_on (asked_by m) i a ≡ false
not_both m i j a differ on = ap (λ (o : Option ℕ). names o i) (on_is m j a on) ∙ other j i differ
  where
    other : (j i : ℕ) → j ≢ i → (j == i) ≡ false
    other j i differ = either (j == i) (λ e. absurd (differ (number_same j i e))) (λ e. e)

record AreBoth (m : Moment) (into : Dir) (c i : ℕ) (bearings : ℕ → Bearing) (given_before : ℕ → Given) (new last : List Bearer) (y : List Held) (blocks : Held) : Type 0 where
  pub first : IsAfter m into c i bearings given_before new y
  pub later : IsChannelStarted m into c i first.next last blocks

start_after : (m : Moment) (into : Dir) (c i : ℕ) (bearings : ℕ → Bearing) (given_before : ℕ → Given) (new last : List Bearer) (y : List Held) (blocks : Held) → starts (asked_by m) i ≡ true → i < length y →
    AreBoth m into c i bearings given_before new last y blocks → IsAfter m into c (i + 1) bearings given_before last (set y i blocks)
start_after m into c i bearings given_before new last y blocks start inside both = record {
  next = t.next;
  built = built;
  gives = gives;
  stands = t.stands;
  given = given_now;
}
  where
    s : IsAfter m into c i bearings given_before new y
    s = both.first

    t : IsChannelStarted m into c i s.next last blocks
    t = both.later

    built : ℕ → List (List Bit)
    built a = cond (is_on (asked_by m) i a) (t.built a) (s.built a)

    gives : (a : ℕ) → Gives m.config m.out a (count_to (asked_by m) c (i + 1) a (channel_of m.config m.out a)) (bearings a) (t.next a) (built a)
    gives a = either (is_on (asked_by m) i a)
        (λ on.
        let none : Gives m.config m.out a 0 (bearings a) (s.next a) (s.built a) = subst (λ n. Gives m.config m.out a n (bearings a) (s.next a) (s.built a)) (on_count m c i a on) (s.gives a) in
        let own : Gives m.config m.out a (built_on (asked_by m) i (format_in (asked_by m) c i) a) (bearings a) (t.next a) (t.built a) = subst (λ old. Gives m.config m.out a (built_on (asked_by m) i (format_in (asked_by m) c i) a) old (t.next a) (t.built a)) none.0 (t.gives a) in
        subst (λ bs. Gives m.config m.out a (count_to (asked_by m) c (i + 1) a (channel_of m.config m.out a)) (bearings a) (t.next a) bs) (sym (ap (λ d. cond d (t.built a) (s.built a)) on))
        (subst (λ n. Gives m.config m.out a n (bearings a) (t.next a) (t.built a)) (next_on m c i a start on) own))
        (λ off.
        let none : Gives m.config m.out a 0 (s.next a) (t.next a) (t.built a) = subst (λ n. Gives m.config m.out a n (s.next a) (t.next a) (t.built a)) (ap (λ d. cond d (given (asked_by m) i (format_in (asked_by m) c i) a) 0) off) (t.gives a) in
        let own : Gives m.config m.out a (count_to (asked_by m) c i a (channel_of m.config m.out a)) (bearings a) (t.next a) (s.built a) = subst (λ next. Gives m.config m.out a (count_to (asked_by m) c i a (channel_of m.config m.out a)) (bearings a) next (s.built a)) (sym none.0) (s.gives a) in
        subst (λ bs. Gives m.config m.out a (count_to (asked_by m) c (i + 1) a (channel_of m.config m.out a)) (bearings a) (t.next a) bs) (sym (ap (λ d. cond d (t.built a) (s.built a)) off))
        (subst (λ n. Gives m.config m.out a n (bearings a) (t.next a) (s.built a)) (next_off (asked_by m) c i a (channel_of m.config m.out a) off) own))

    own_given : given_to (asked_by m) c built (i + 1) given_before i ≡ given_by (asked_by m) c t.built i
    own_given =
        ap (λ d. cond (d && starts (asked_by m) i) (given_by (asked_by m) c built i) (given_before i)) (self_next i)
        ∙ (ap (λ d. cond d (given_by (asked_by m) c built i) (given_before i)) start
        ∙ ap (λ bs. record (given_by (asked_by m) c t.built i) { blocks = bs }) (all_same (asked_by m) i built t.built (λ a on. ap (λ d. cond d (t.built a) (s.built a)) on)))

    other_given : (j : ℕ) → j ≢ i → given_to (asked_by m) c s.built i given_before j ≡ given_to (asked_by m) c built (i + 1) given_before j
    other_given j differ =
        ap (λ d. cond (d && starts (asked_by m) j) (given_by (asked_by m) c s.built j) (given_before j)) (sym (other_next j i differ))
        ∙ ap (λ bs. cond (is_started (asked_by m) (i + 1) j) (record (given_by (asked_by m) c s.built j) { blocks = bs }) (given_before j))
        (all_same (asked_by m) j s.built built (λ a on. sym (ap (λ d. cond d (t.built a) (s.built a)) (not_both m i j a differ on))))

    given_now : (j : ℕ) → j < length (side_of m.config m.out).channels → IsGiven m.config m.out j (given_to (asked_by m) c built (i + 1) given_before j) (held_at (set y i blocks) j)
    given_now j less = either (j == i)
        (λ same. subst (λ k. IsGiven m.config m.out k (given_to (asked_by m) c built (i + 1) given_before k) (held_at (set y i blocks) k)) (sym (number_same j i same))
        (subst (IsGiven m.config m.out i (given_to (asked_by m) c built (i + 1) given_before i)) (sym (get_or-set_same y i blocks (held_at [] 0) inside))
        (subst (λ (g : Given). IsGiven m.config m.out i g blocks) (sym own_given) t.given)))
        (λ other. subst (IsGiven m.config m.out j (given_to (asked_by m) c built (i + 1) given_before j)) (sym (get_or-set_other y i j blocks (held_at [] 0) (other_number j i other)))
        (subst (λ (g : Given). IsGiven m.config m.out j g (held_at y j)) (other_given j (other_number j i other)) (s.given j less)))

pub start_started : (m : Moment) (c i : ℕ) (old new last : List Bearer) (x y : List Held) (blocks : Held) → starts (asked_by m) i ≡ true → i < length y → HaveStarted m c i old new x y → length last ≡ length new →
    ((into : Dir) (bearings : ℕ → Bearing) → AreReady m i into bearings new → IsChannelStarted m into c i bearings last blocks) → HaveStarted m c (i + 1) old last x (set y i blocks)
start_started m c i old new last x y blocks start inside started all later = record {
  all_bearers = all ∙ started.all_bearers;
  all = length-set y i blocks ∙ started.all;
  after = λ into bearings given_before before.
      let s = started.after into bearings given_before before in
      start_after m into c i bearings given_before new last y blocks start inside
      (record { first = s; later = later into s.next (start_ready m into c i bearings given_before old new x y before started.all_bearers s) });
}
