-- A status as its fields, and number by number.
use Rattle.std.proofs.Common.{◌≡◌, ◌+◌, ◌-◌, ℕ, suc, List, [], ◌∷◌, ◌++◌, Bool, true, false, cond, not, ◌&&◌, ◌||◌, length, Option, Some, None, arith, refl, sym, ap, ap₂, ◌∙◌, subst}
use Rattle.std.specs.Prelude.{map, nat_lt, nat_le}
use Rattle.std.proofs.lemmas.Bool.Decides.{nat_tests}
use Rattle.dch_rlcpdu.specs.Fields.{Field, NoMoreField, WindowField, AckField, ListField, BitmapField, MrwField, MrwAckField}
use Rattle.dch_am.specs.Numbers.{ahead, range, wrapped}
use Rattle.dch_am.specs.Names.{named, ones, zeros}
use Rattle.dch_am.specs.Bodies.{is_empty}
use Rattle.dch_am.specs.Rules.{Rules}
use Rattle.dch_am.specs.Sender.{Sender, vt_s, vt_a}
use Rattle.dch_am.specs.Acknowledging.{after_ack, after_acks, after_answer, after_fields, after_telling_of, all_names, first_beyond, first_of_both, first_unknown, lsn_of, offending, outside_of, read_from, status_answer, reports, those_below, told, unwrap}
use Rattle.dch_retx.specs.StatusItems.{StatusItem, Missing, Unset, Set, Below, Obeyed, bits_from, missing_of, said_by}
use Rattle.dch_retx.specs.StatusItem.{below_said, first_outside, number_in, offends, place_of, reports_some}
use Rattle.dch_retx.specs.RetxBuffer.{RetxBuffer, after_hearing, after_moves, after_told, answer_of, answered, base_after, below_from, ending, first_number, listened, outside_from, after_answer as line_after}
use Rattle.dch_retx.specs.Standing.{Stands}
use Rattle.dch_retx.proofs.Saying.{IsBase, base_is, listened_stands, place_is, said_lsn, said_names}
use Rattle.dch_retx.proofs.Freeing.{HasMoved, moves_stand, said_acks}

read_again : (base x : ℕ) → read_from base (wrapped x) ≡ read_from base x
read_again base x = omega arith

place_again : (first x : ℕ) → place_of first (wrapped x) ≡ place_of first x
place_again first x = omega arith

-- the first number that is outside
pub outside-append : (w first count : ℕ) (xs ys : List StatusItem) → first_outside w first count (xs ++ ys) ≡ first_of_both (first_outside w first count xs) (first_outside w first count ys)
outside-append w first count [] ys = refl
outside-append w first count (x ∷ xs) ys = go (offends w first count x) (outside-append w first count xs ys)
  where
    go : (b : Bool) → first_outside w first count (xs ++ ys) ≡ first_of_both (first_outside w first count xs) (first_outside w first count ys) → cond b (Some (number_in x)) (first_outside w first count (xs ++ ys)) ≡ first_of_both (cond b (Some (number_in x)) (first_outside w first count xs)) (first_outside w first count ys)
    go true e = refl
    go false e = e

far_test : (base count o : ℕ) → nat_le (base + count) (base + o) ≡ nat_le count o
far_test base count o = grind (arith, nat_tests)

past_test : (base count o : ℕ) → nat_lt (base + count) (base + o) ≡ nat_lt count o
past_test base count o = grind (arith, nat_tests)

beyond_is : (base next first count x : ℕ) → IsBase base next first count → nat_le next (read_from base x) ≡ nat_le count (place_of first (wrapped x))
beyond_is base next first count x b = ap₂ nat_le b.count_is (place_is base next first count x b) ∙ (far_test base count (place_of first x) ∙ ap (nat_le count) (sym (place_again first x)))

ahead_is : (base next first count x : ℕ) → IsBase base next first count → ahead base (wrapped x) ≡ place_of first (wrapped x)
ahead_is base next first count x b = same base first x b.first_is
  where
    same : (base first x : ℕ) → first ≡ wrapped base → ahead base (wrapped x) ≡ place_of first (wrapped x)
    same base first x e = omega arith

outside-list : (w base next first count : ℕ) → IsBase base next first count → (ns : List ℕ) → first_beyond base next ns ≡ first_outside w first count (map missing_of ns)
outside-list w base next first count b [] = refl
outside-list w base next first count b (x ∷ ns) = ap₂ (λ t o. cond t (Some (wrapped x)) o) (beyond_is base next first count x b) (outside-list w base next first count b ns)

outside-bits : (w base next first count : ℕ) → IsBase base next first count → (from : ℕ) (bits : List Bool) → first_unknown w base next (ones from bits) ≡ first_outside w first count (bits_from from bits)
outside-bits w base next first count b from [] = refl
outside-bits w base next first count b from (true ∷ bits) = ap₂ (λ t o. cond t (Some (wrapped from)) o) (ap₂ (λ p q. p && nat_lt q (4096 - w)) (beyond_is base next first count from b) (ahead_is base next first count from b)) (outside-bits w base next first count b (from + 1) bits)
outside-bits w base next first count b from (false ∷ bits) = outside-bits w base next first count b (from + 1) bits

pub outside_is : (w base next first count : ℕ) → IsBase base next first count → (fields : List Field) → offending w base next fields ≡ first_outside w first count (said_by fields)
outside_is w base next first count b [] = refl
outside_is w base next first count b (NoMoreField ∷ fields) = outside_is w base next first count b fields
outside_is w base next first count b (WindowField size ∷ fields) = outside_is w base next first count b fields
outside_is w base next first count b (MrwField last n ∷ fields) = outside_is w base next first count b fields
outside_is w base next first count b (MrwAckField n sn ∷ fields) = outside_is w base next first count b fields
outside_is w base next first count b (AckField lsn ∷ fields) = ap₂ (λ t o. first_of_both (cond t (Some (wrapped lsn)) None) o) (ap₂ nat_lt b.count_is (place_is base next first count lsn b) ∙ past_test base count (place_of first lsn)) (outside_is w base next first count b fields) ∙ sym (outside-append w first count (Below lsn ∷ []) (said_by fields))
outside_is w base next first count b (ListField pairs ∷ fields) = ap₂ first_of_both (outside-list w base next first count b (named pairs)) (outside_is w base next first count b fields) ∙ sym (outside-append w first count (map missing_of (named pairs)) (said_by fields))
outside_is w base next first count b (BitmapField from bits ∷ fields) = ap₂ first_of_both (outside-bits w base next first count b from bits) (outside_is w base next first count b fields) ∙ sym (outside-append w first count (bits_from from bits) (said_by fields))

-- the numbers that are named missing
names-append : (base next : ℕ) (xs ys : List StatusItem) → said_names base next (xs ++ ys) ≡ said_names base next xs ++ said_names base next ys
names-append base next [] ys = refl
names-append base next (Missing x ∷ xs) ys = ap (λ ns. read_from base x ∷ ns) (names-append base next xs ys)
names-append base next (Unset x ∷ xs) ys = go (nat_lt (read_from base x) next) (names-append base next xs ys)
  where
    go : (c : Bool) → said_names base next (xs ++ ys) ≡ said_names base next xs ++ said_names base next ys → cond c (read_from base x ∷ said_names base next (xs ++ ys)) (said_names base next (xs ++ ys)) ≡ cond c (read_from base x ∷ said_names base next xs) (said_names base next xs) ++ said_names base next ys
    go true e = ap (λ ns. read_from base x ∷ ns) e
    go false e = e
names-append base next (Set x ∷ xs) ys = names-append base next xs ys
names-append base next (Below x ∷ xs) ys = names-append base next xs ys
names-append base next (Obeyed n sn ∷ xs) ys = names-append base next xs ys

names-list : (base next : ℕ) (ns : List ℕ) → unwrap base ns ≡ said_names base next (map missing_of ns)
names-list base next [] = refl
names-list base next (x ∷ ns) = ap₂ (λ a b. a ∷ b) (sym (read_again base x)) (names-list base next ns)

names-bits : (base next from : ℕ) (bits : List Bool) → those_below next (unwrap base (zeros from bits)) ≡ said_names base next (bits_from from bits)
names-bits base next from [] = refl
names-bits base next from (true ∷ bits) = names-bits base next (from + 1) bits
names-bits base next from (false ∷ bits) = ap₂ (λ x ns. cond (nat_lt x next) (x ∷ ns) ns) (sym (read_again base from)) (names-bits base next (from + 1) bits)

pub names_are : (base next : ℕ) (fields : List Field) → all_names base next fields ≡ said_names base next (said_by fields)
names_are base next [] = refl
names_are base next (NoMoreField ∷ fields) = names_are base next fields
names_are base next (WindowField size ∷ fields) = names_are base next fields
names_are base next (MrwField last n ∷ fields) = names_are base next fields
names_are base next (MrwAckField n sn ∷ fields) = names_are base next fields
names_are base next (AckField lsn ∷ fields) = names_are base next fields
names_are base next (ListField pairs ∷ fields) = ap₂ (λ a b. a ++ b) (names-list base next (named pairs)) (names_are base next fields) ∙ sym (names-append base next (map missing_of (named pairs)) (said_by fields))
names_are base next (BitmapField from bits ∷ fields) = ap₂ (λ a b. a ++ b) (names-bits base next from bits) (names_are base next fields) ∙ sym (names-append base next (bits_from from bits) (said_by fields))

-- what runs and bits leave as it is
lsn-list : (base : ℕ) (ns : List ℕ) (ys : List StatusItem) → said_lsn base (map missing_of ns ++ ys) ≡ said_lsn base ys
lsn-list base [] ys = refl
lsn-list base (x ∷ ns) ys = lsn-list base ns ys

lsn-bits : (base from : ℕ) (bits : List Bool) (ys : List StatusItem) → said_lsn base (bits_from from bits ++ ys) ≡ said_lsn base ys
lsn-bits base from [] ys = refl
lsn-bits base from (true ∷ bits) ys = lsn-bits base (from + 1) bits ys
lsn-bits base from (false ∷ bits) ys = lsn-bits base (from + 1) bits ys

pub lsn_is : (base : ℕ) (fields : List Field) → lsn_of base fields ≡ said_lsn base (said_by fields)
lsn_is base [] = refl
lsn_is base (NoMoreField ∷ fields) = lsn_is base fields
lsn_is base (WindowField size ∷ fields) = lsn_is base fields
lsn_is base (MrwField last n ∷ fields) = lsn_is base fields
lsn_is base (MrwAckField n sn ∷ fields) = lsn_is base fields
lsn_is base (AckField lsn ∷ fields) = refl
lsn_is base (ListField pairs ∷ fields) = lsn_is base fields ∙ sym (lsn-list base (named pairs) (said_by fields))
lsn_is base (BitmapField from bits ∷ fields) = lsn_is base fields ∙ sym (lsn-bits base from bits (said_by fields))

acks-list : (s : Sender) (ns : List ℕ) (ys : List StatusItem) → said_acks s (map missing_of ns ++ ys) ≡ said_acks s ys
acks-list s [] ys = refl
acks-list s (x ∷ ns) ys = acks-list s ns ys

acks-bits : (s : Sender) (from : ℕ) (bits : List Bool) (ys : List StatusItem) → said_acks s (bits_from from bits ++ ys) ≡ said_acks s ys
acks-bits s from [] ys = refl
acks-bits s from (true ∷ bits) ys = acks-bits s (from + 1) bits ys
acks-bits s from (false ∷ bits) ys = acks-bits s (from + 1) bits ys

pub acks_are : (s : Sender) (fields : List Field) → after_acks s fields ≡ said_acks s (said_by fields)
acks_are s [] = refl
acks_are s (NoMoreField ∷ fields) = acks_are s fields
acks_are s (WindowField size ∷ fields) = acks_are s fields
acks_are s (MrwField last n ∷ fields) = acks_are s fields
acks_are s (MrwAckField n sn ∷ fields) = acks_are (after_ack s (record { number = sn; n = n })) fields
acks_are s (AckField lsn ∷ fields) = acks_are s fields
acks_are s (ListField pairs ∷ fields) = acks_are s fields ∙ sym (acks-list s (named pairs) (said_by fields))
acks_are s (BitmapField from bits ∷ fields) = acks_are s fields ∙ sym (acks-bits s from bits (said_by fields))

pub reports-list : (pairs : List (ℕ × ℕ)) (ys : List StatusItem) → reports_some (map missing_of (named pairs) ++ ys) ≡ (not (is_empty pairs) || reports_some ys)
reports-list [] ys = refl
reports-list (p ∷ pairs) ys = let e : p.1 + 1 ≡ suc p.1 = omega arith in ap (λ n. reports_some (map missing_of (range p.0 n ++ named pairs) ++ ys)) e

pub reports-bits : (from : ℕ) (bits : List Bool) (ys : List StatusItem) → reports_some (bits_from from bits ++ ys) ≡ (not (is_empty bits) || reports_some ys)
reports-bits from [] ys = refl
reports-bits from (true ∷ bits) ys = refl
reports-bits from (false ∷ bits) ys = refl

pub reports_is : (fields : List Field) → reports fields ≡ reports_some (said_by fields)
reports_is [] = refl
reports_is (NoMoreField ∷ fields) = reports_is fields
reports_is (WindowField size ∷ fields) = reports_is fields
reports_is (MrwField last n ∷ fields) = reports_is fields
reports_is (MrwAckField n sn ∷ fields) = reports_is fields
reports_is (AckField lsn ∷ fields) = refl
reports_is (ListField pairs ∷ fields) = ap (λ b. not (is_empty pairs) || b) (reports_is fields) ∙ sym (reports-list pairs (said_by fields))
reports_is (BitmapField from bits ∷ fields) = ap (λ b. not (is_empty bits) || b) (reports_is fields) ∙ sym (reports-bits from bits (said_by fields))

-- a status is heard as it is defined
pub record Hears (rules : Rules) (l : RetxBuffer) (s : Sender) (fields : List Field) : Type 0 where
  pub answer : answer_of (said_by fields) l ≡ status_answer rules s fields
  pub after : Stands rules (after_hearing (said_by fields) l) (after_fields rules s fields)

answered_is : (o : Option ℕ) → answered o ≡ outside_of o
answered_is None = refl
answered_is (Some i) = refl

pub hears : (rules : Rules) (l : RetxBuffer) (s : Sender) (fields : List Field) → Stands rules l s → Hears rules l s fields
hears rules l s fields is = record {
  answer = answer;
  after = go (first_outside now.window (first_number now) (length now.in_flight) said) refl;
}
  where
    said : List StatusItem
    said = said_by fields

    after : Sender
    after = said_acks s said

    now : RetxBuffer
    now = after_moves said l

    m : HasMoved rules l s (ending said l l.running) after
    m = moves_stand rules l s said is

    b : IsBase (vt_a after) (vt_s after) (first_number now) (length now.in_flight)
    b = base_is rules now after m.stands

    place : outside_from (base_after (ending said l l.running) l) said l ≡ first_outside now.window (first_number now) (length now.in_flight) said
    place = same l.window now.window (length l.in_flight - base_after (ending said l l.running) l) (length now.in_flight) l.next now.next (sym m.window) (sym m.left) (sym m.next)
      where
        same : (w v a c x y : ℕ) → w ≡ v → a ≡ c → x ≡ y → first_outside w (wrapped (x + 4096 - a)) a said ≡ first_outside v (wrapped (y + 4096 - (c - 0))) c said
        same w v a c x y e1 e2 e3 = let e4 : x + 4096 - a ≡ y + 4096 - (c - 0) = omega arith in ap₂ (λ p q. first_outside p (wrapped q) a said) e1 e4 ∙ ap (λ q. first_outside v (wrapped (y + 4096 - (c - 0))) q said) e2

    acks : after_acks s fields ≡ after
    acks = acks_are s fields

    found : first_outside now.window (first_number now) (length now.in_flight) said ≡ offending rules.window (vt_a (after_acks s fields)) (vt_s (after_acks s fields)) fields
    found = ap (λ w. first_outside w (first_number now) (length now.in_flight) said) m.stands.window ∙ (sym (outside_is rules.window (vt_a after) (vt_s after) (first_number now) (length now.in_flight) b fields) ∙ ap (λ t. offending rules.window (vt_a t) (vt_s t) fields) (sym acks))

    answer : answer_of said l ≡ status_answer rules s fields
    answer = ap answered (place ∙ found) ∙ answered_is (offending rules.window (vt_a (after_acks s fields)) (vt_s (after_acks s fields)) fields)

    below : ℕ
    below = below_from (base_after (ending said l l.running) l) said l

    -- the LSN stands at the same place among those that are left
    below_is : below ≡ below_said (first_number now) said
    below_is = ap (λ n. below_said n said) (same (length l.in_flight - base_after (ending said l l.running) l) (length now.in_flight) l.next now.next (sym m.left) (sym m.next))
      where
        same : (a c x y : ℕ) → a ≡ c → x ≡ y → wrapped (x + 4096 - a) ≡ wrapped (y + 4096 - (c - 0))
        same a c x y e1 e2 = let e : x + 4096 - a ≡ y + 4096 - (c - 0) = omega arith in ap wrapped e

    listens : first_outside now.window (first_number now) (length now.in_flight) said ≡ None → Stands rules (listened below said now) (told after (said_names (vt_a after) (vt_s after) said) (said_lsn (vt_a after) said))
    listens none = subst (λ k. Stands rules (listened k said now) (told after (said_names (vt_a after) (vt_s after) said) (said_lsn (vt_a after) said))) (sym below_is) (listened_stands rules now after said m.stands none)

    told_is : first_outside now.window (first_number now) (length now.in_flight) said ≡ None → Stands rules (after_told below said now) (after_telling_of after fields)
    told_is none = subst (λ c. Stands rules (after_told below said now) (cond c (told after (all_names (vt_a after) (vt_s after) fields) (lsn_of (vt_a after) fields)) after)) (sym (reports_is fields))
        (either (reports_some said)
        (subst (λ ns. Stands rules (listened below said now) (told after ns (lsn_of (vt_a after) fields))) (sym (names_are (vt_a after) (vt_s after) fields))
        (subst (λ k. Stands rules (listened below said now) (told after (said_names (vt_a after) (vt_s after) said) k)) (sym (lsn_is (vt_a after) fields))
        (listens none))))
      where
        either : (c : Bool) → Stands rules (listened below said now) (told after (all_names (vt_a after) (vt_s after) fields) (lsn_of (vt_a after) fields)) → Stands rules (cond c (listened below said now) now) (cond c (told after (all_names (vt_a after) (vt_s after) fields) (lsn_of (vt_a after) fields)) after)
        either true x = x
        either false x = m.stands

    go : (o : Option ℕ) → first_outside now.window (first_number now) (length now.in_flight) said ≡ o → Stands rules (after_hearing said l) (after_fields rules s fields)
    go None e = subst (λ t. Stands rules (line_after (answer_of said l) said l) (after_answer t s fields)) answer
        (subst (λ t. Stands rules (line_after t said l) (after_answer t s fields)) (sym (ap answered (place ∙ e)))
        (subst (λ x. Stands rules (after_told below said now) (after_telling_of x fields)) (sym acks) (told_is e)))
    go (Some i) e = subst (λ t. Stands rules (line_after (answer_of said l) said l) (after_answer t s fields)) answer
        (subst (λ t. Stands rules (line_after t said l) (after_answer t s fields)) (sym (ap answered (place ∙ e))) is)
