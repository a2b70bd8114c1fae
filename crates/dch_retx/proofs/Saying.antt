-- What a status says, as numbers without wrap.
use Rattle.std.proofs.Common.{◌≡◌, ◌+◌, ◌-◌, ◌<◌, ◌≤◌, ℕ, List, [], ◌∷◌, ◌++◌, Bool, true, false, cond, not, ◌&&◌, ◌||◌, length, Option, Some, None, arith, refl, sym, ap, ap₂, ◌∙◌, ⊎_elim}
use Rattle.std.specs.Prelude.{nat_lt, nat_le, min, ◌==◌}
use Rattle.std.proofs.lemmas.Bool.{both_ways, eqb-true, le-ltb, ltb-true, ltb-false, le-leb, leb-false, or_cases}
use Rattle.std.proofs.lemmas.Bool.Decides.{nat_tests}
use Rattle.dch_retx.specs.declared.sent_pdu.SentPdu.{SentPdu}
use Rattle.dch_retx.specs.Flights.{at}
use Rattle.dch_am.specs.Numbers.{ahead, has, less, below, wrapped}
use Rattle.dch_am.specs.Rules.{Rules}
use Rattle.dch_am.specs.Sender.{Sender, Discard, vt_s, vt_a}
use Rattle.dch_am.specs.Acknowledging.{floor, now_acked, read_from, told}
use Rattle.dch_am.proofs.Lists.{has-append, has-less, has-below}
use Rattle.dch_retx.specs.StatusItems.{StatusItem}
use Rattle.dch_retx.specs.StatusItems.{Missing, Unset, Set, Below, Obeyed}
use Rattle.dch_retx.specs.declared.buffer.Running.{Running}
use Rattle.dch_retx.specs.StatusItem.{below_said, first_outside, is_named, offends, place_of}
use Rattle.dch_retx.specs.RetxBuffer.{RetxBuffer, first_number, floor_of, listened, told_line}
use Rattle.dch_retx.specs.Standing.{IsInFlight, IsRunning, Stands}
use Rattle.dch_retx.proofs.Lengths.{length-told}
use Rattle.dch_retx.proofs.Fronts.{IsHeard, IsTold, heard_stands}
use Rattle.dch_retx.proofs.Naming.{IsOne, at-told, heard_one, one_is}

-- the numbers that are named missing, and the LSN
abbrev pub said_names : ℕ → ℕ → List StatusItem → List ℕ
said_names base next [] = []
said_names base next (Missing x ∷ rest) = read_from base x ∷ said_names base next rest
said_names base next (Unset x ∷ rest) = cond (nat_lt (read_from base x) next) (read_from base x ∷ said_names base next rest) (said_names base next rest)
said_names base next (Set x ∷ rest) = said_names base next rest
said_names base next (Below x ∷ rest) = said_names base next rest
said_names base next (Obeyed n sn ∷ rest) = said_names base next rest

abbrev pub said_lsn : ℕ → List StatusItem → ℕ
said_lsn base [] = 0
said_lsn base (Below x ∷ rest) = read_from base x
said_lsn base (Missing x ∷ rest) = said_lsn base rest
said_lsn base (Unset x ∷ rest) = said_lsn base rest
said_lsn base (Set x ∷ rest) = said_lsn base rest
said_lsn base (Obeyed n sn ∷ rest) = said_lsn base rest

-- the first number in flight, in 12 bits and without wrap
pub record IsBase (base next first count : ℕ) : Type 0 where
  pub count_is : next ≡ base + count
  pub first_is : first ≡ wrapped base

pub place_is : (base next first count x : ℕ) → IsBase base next first count → read_from base x ≡ base + place_of first x
place_is base next first count x b = ap (λ k. base + k) (same base first x b.first_is)
  where
    same : (base first x : ℕ) → first ≡ wrapped base → ahead base (wrapped x) ≡ place_of first x
    same base first x e = omega arith

number_test : (base j o : ℕ) → (base + j == base + o) ≡ (o == j)
number_test base j o = grind (arith, nat_tests)

far_test : (n j o : ℕ) → j < n → n ≤ o → (o == j) ≡ false
far_test n j o l m = grind (arith, nat_tests)

pub names_is : (base next first count : ℕ) → IsBase base next first count → (said : List StatusItem) (j : ℕ) → j < count → has (base + j) (said_names base next said) ≡ is_named first j said
names_is base next first count b [] j l = refl
names_is base next first count b (Missing x ∷ said) j l =
    ap₂ (λ m c. (base + j == m) || c) (place_is base next first count x b) (names_is base next first count b said j l)
    ∙ ap (λ c. c || is_named first j said) (number_test base j (place_of first x))
names_is base next first count b (Unset x ∷ said) j l = go (nat_lt (read_from base x) next) refl (names_is base next first count b said j l)
  where
    go : (c : Bool) → nat_lt (read_from base x) next ≡ c → has (base + j) (said_names base next said) ≡ is_named first j said → has (base + j) (cond c (read_from base x ∷ said_names base next said) (said_names base next said)) ≡ ((place_of first x == j) || is_named first j said)
    go true e ih = ap₂ (λ m c. (base + j == m) || c) (place_is base next first count x b) ih ∙ ap (λ c. c || is_named first j said) (number_test base j (place_of first x))
    go false e ih = ih ∙ sym (ap (λ c. c || is_named first j said) (far_test count j (place_of first x) l (omega (arith, ltb-false (read_from base x) next e, place_is base next first count x b, b.count_is))))
names_is base next first count b (Set x ∷ said) j l = names_is base next first count b said j l
names_is base next first count b (Below x ∷ said) j l = names_is base next first count b said j l
names_is base next first count b (Obeyed n sn ∷ said) j l = names_is base next first count b said j l

-- nothing is outside
inside : (c : Bool) (i : ℕ) (o : Option ℕ) → cond c (Some i) o ≡ None → (c ≡ false) × (o ≡ None)
inside true i o e = absurd (cc)
inside false i o e = (refl, e)

pub names_in : (window base next first count : ℕ) → IsBase base next first count → (said : List StatusItem) → first_outside window first count said ≡ None → (k : ℕ) → has k (said_names base next said) ≡ true → (base ≤ k) × (k < next)
names_in window base next first count b [] none k e = absurd (both_ways false refl e)
names_in window base next first count b (Missing x ∷ said) none k e =
    let here = inside (nat_le count (place_of first x)) x (first_outside window first count said) none in
    ⊎_elim
    (λ (q : (k == read_from base x) ≡ true). let s : k ≡ read_from base x = eqb-true k (read_from base x) q in (omega (arith, place_is base next first count x b), omega (arith, place_is base next first count x b, leb-false count (place_of first x) here.0, b.count_is)))
    (λ (q : has k (said_names base next said) ≡ true). names_in window base next first count b said here.1 k q)
    (or_cases _ _ e)
names_in window base next first count b (Unset x ∷ said) none k e = go (nat_lt (read_from base x) next) refl e (λ q. names_in window base next first count b said (inside false x (first_outside window first count said) none).1 k q)
  where
    go : (c : Bool) → nat_lt (read_from base x) next ≡ c → has k (cond c (read_from base x ∷ said_names base next said) (said_names base next said)) ≡ true → (has k (said_names base next said) ≡ true → (base ≤ k) × (k < next)) → (base ≤ k) × (k < next)
    go true t e rest = ⊎_elim
        (λ (q : (k == read_from base x) ≡ true). let s : k ≡ read_from base x = eqb-true k (read_from base x) q in (omega arith, omega (arith, ltb-true (read_from base x) next t)))
        (λ (q : has k (said_names base next said) ≡ true). rest q)
        (or_cases _ _ e)
    go false t e rest = rest e
names_in window base next first count b (Set x ∷ said) none k e = names_in window base next first count b said (inside (offends window first count (Set x)) x (first_outside window first count said) none).1 k e
names_in window base next first count b (Below x ∷ said) none k e = names_in window base next first count b said (inside (offends window first count (Below x)) (wrapped x) (first_outside window first count said) none).1 k e
names_in window base next first count b (Obeyed n sn ∷ said) none k e = names_in window base next first count b said none k e

pub lsn_in : (window base next first count : ℕ) → IsBase base next first count → (said : List StatusItem) → first_outside window first count said ≡ None → said_lsn base said ≤ next
lsn_in window base next first count b [] none = omega arith
lsn_in window base next first count b (Below x ∷ said) none = omega (arith, place_is base next first count x b, ltb-false count (place_of first x) (inside (nat_lt count (place_of first x)) (wrapped x) (first_outside window first count said) none).0, b.count_is)
lsn_in window base next first count b (Missing x ∷ said) none = lsn_in window base next first count b said (inside (offends window first count (Missing x)) x (first_outside window first count said) none).1
lsn_in window base next first count b (Unset x ∷ said) none = lsn_in window base next first count b said none
lsn_in window base next first count b (Set x ∷ said) none = lsn_in window base next first count b said (inside (offends window first count (Set x)) x (first_outside window first count said) none).1
lsn_in window base next first count b (Obeyed n sn ∷ said) none = lsn_in window base next first count b said none

pub under_is : (base next first count : ℕ) → IsBase base next first count → (said : List StatusItem) (j : ℕ) → j < count → nat_lt j (min (below_said first said) count) ≡ nat_lt (base + j) (said_lsn base said)
under_is base next first count b [] j l = le-ltb j (min 0 count) (omega arith) ∙ sym (le-ltb (base + j) 0 (omega arith))
under_is base next first count b (Below x ∷ said) j l = same j base (place_of first x) count l ∙ ap (nat_lt (base + j)) (sym (place_is base next first count x b))
  where
    same : (j base o n : ℕ) → j < n → nat_lt j (min o n) ≡ nat_lt (base + j) (base + o)
    same j base o n l = grind (arith, nat_tests)
under_is base next first count b (Missing x ∷ said) j l = under_is base next first count b said j l
under_is base next first count b (Unset x ∷ said) j l = under_is base next first count b said j l
under_is base next first count b (Set x ∷ said) j l = under_is base next first count b said j l
under_is base next first count b (Obeyed n sn ∷ said) j l = under_is base next first count b said j l

-- the line's own numbers
pub base_is : (rules : Rules) (l : RetxBuffer) (s : Sender) → Stands rules l s → IsBase (vt_a s) (vt_s s) (first_number l) (length l.in_flight)
base_is rules l s is = record { count_is = sym is.flying; first_is = same (vt_a s) (length l.in_flight) (vt_s s) l.next is.flying is.next (omega (arith, is.few, is.most)) }
  where
    same : (a n s next : ℕ) → a + n ≡ s → next ≡ wrapped s → n ≤ 2048 → wrapped (next + 4096 - (n - 0)) ≡ wrapped a
    same a n s next e1 e2 le = omega arith

floor_test : (low j : ℕ) (n : ℕ) (r : Option Running) (d : Option Discard) → IsRunning r d low n → nat_le (floor_of r) j ≡ not (nat_lt (low + j) (floor d))
floor_test low j n None None is = le-leb 0 j (omega arith) ∙ ap not (sym (le-ltb (low + j) 0 (omega arith)))
floor_test low j n None (Some d) is = absurd is
floor_test low j n (Some r) None is = absurd is
floor_test low j n (Some r) (Some d) is = same low j r.at ∙ ap (λ k. not (nat_lt (low + j) k)) is.k
  where
    same : (low j a : ℕ) → nat_le a j ≡ not (nat_lt (low + j) (low + a))
    same low j a = grind (arith, nat_tests)

acked_spec : (k : ℕ) (acked names : List ℕ) (lsn : ℕ) → has k (now_acked acked names lsn) ≡ ((nat_lt k lsn && not (has k names)) || has k acked)
acked_spec k acked names lsn = has-append k (less (below lsn) names) acked ∙ ap (λ b. b || has k acked) (has-less k (below lsn) names ∙ ap (λ b. b && not (has k names)) (has-below k lsn))

pub requested_spec : (k : ℕ) (requested acked names : List ℕ) (lsn low : ℕ) → has k (less (less (names ++ requested) (now_acked acked names lsn)) (below low)) ≡ (((has k names || has k requested) && not ((nat_lt k lsn && not (has k names)) || has k acked)) && not (nat_lt k low))
requested_spec k requested acked names lsn low =
    has-less k (less (names ++ requested) (now_acked acked names lsn)) (below low)
    ∙ ap₂ (λ a b. a && not b) (has-less k (names ++ requested) (now_acked acked names lsn) ∙ ap₂ (λ a b. a && not b) (has-append k names requested) (acked_spec k acked names lsn)) (has-below k low)

-- what the status says is told
pub listened_heard : (rules : Rules) (l : RetxBuffer) (s : Sender) (said : List StatusItem) → Stands rules l s → first_outside l.window (first_number l) (length l.in_flight) said ≡ None → IsHeard rules l s (said_names (vt_a s) (vt_s s) said) (said_lsn (vt_a s) said) (is_named (first_number l) l.polled said) (told_line (below_said (first_number l) said) said l)
listened_heard rules l s said is none = record {
  stands = is;
  size = length-told (below_said (first_number l) said) said l;
  told = λ i less. told_is i less;
  names_in = names_in l.window (vt_a s) (vt_s s) (first_number l) (length l.in_flight) b said none;
  lsn_in = lsn_in l.window (vt_a s) (vt_s s) (first_number l) (length l.in_flight) b said none;
  polled = λ less. sym (names_is (vt_a s) (vt_s s) (first_number l) (length l.in_flight) b said l.polled less);
}
  where
    b : IsBase (vt_a s) (vt_s s) (first_number l) (length l.in_flight)
    b = base_is rules l s is

    told_is : (i : ℕ) → i < length l.in_flight → IsTold s (said_names (vt_a s) (vt_s s) said) (said_lsn (vt_a s) said) (vt_a s + i) (at (told_line (below_said (first_number l) said) said l) i)
    told_is i less =
        let f : IsInFlight s (vt_a s + i) (at l.in_flight i) = is.in_flight i less in
        let one : IsOne (at l.in_flight i) (nat_le (floor_of l.running) i) (has (vt_a s + i) s.acked) (has (vt_a s + i) s.requested) (is_named (first_number l) i said) (nat_lt i (min (below_said (first_number l) said) (length l.in_flight))) (nat_lt (vt_a s + i) (floor s.discard)) =
        one_is (at l.in_flight i) (nat_le (floor_of l.running) i) _ _ (is_named (first_number l) i said) (nat_lt i (min (below_said (first_number l) said) (length l.in_flight))) (nat_lt (vt_a s + i) (floor s.discard)) f.acked f.requested f.named (floor_test (vt_a s) i (length l.in_flight) l.running s.discard is.running)
        (λ w. ((is.requested (vt_a s + i) w).is_open, le-ltb (vt_a s + i) (floor s.discard) (is.requested (vt_a s + i) w).high)) in
        let named : is_named (first_number l) i said ≡ has (vt_a s + i) (said_names (vt_a s) (vt_s s) said) = sym (names_is (vt_a s) (vt_s s) (first_number l) (length l.in_flight) b said i less) in
        let under : nat_lt i (min (below_said (first_number l) said) (length l.in_flight)) ≡ nat_lt (vt_a s + i) (said_lsn (vt_a s) said) = under_is (vt_a s) (vt_s s) (first_number l) (length l.in_flight) b said i less in
        let place : at (told_line (below_said (first_number l) said) said l) i ≡ heard_one (nat_le (floor_of l.running) i) (is_named (first_number l) i said) (nat_lt i (min (below_said (first_number l) said) (length l.in_flight))) (at l.in_flight i) = at-told (below_said (first_number l) said) said l i less in
        record {
          acked = ap (λ (g : SentPdu). g.acked) place ∙ (one.acked ∙ ap₂ (λ u m. (u && not m) || has (vt_a s + i) s.acked) under named);
          requested = ap (λ (g : SentPdu). g.requested) place ∙ (one.requested ∙ (ap₂ (λ u m. ((m || has (vt_a s + i) s.requested) && not ((u && not m) || has (vt_a s + i) s.acked)) && not (nat_lt (vt_a s + i) (floor s.discard))) under named ∙ sym (requested_spec (vt_a s + i) s.requested s.acked (said_names (vt_a s) (vt_s s) said) (said_lsn (vt_a s) said) (floor s.discard))));
          named = ap (λ (g : SentPdu). g.named) place ∙ one.named_is;
          builds = ap (λ (g : SentPdu). g.builds) place ∙ (one.builds ∙ f.builds);
        }

pub listened_stands : (rules : Rules) (l : RetxBuffer) (s : Sender) (said : List StatusItem) → Stands rules l s → first_outside l.window (first_number l) (length l.in_flight) said ≡ None → Stands rules (listened (below_said (first_number l) said) said l) (told s (said_names (vt_a s) (vt_s s) said) (said_lsn (vt_a s) said))
listened_stands rules l s said is none = heard_stands rules l s (said_names (vt_a s) (vt_s s) said) (said_lsn (vt_a s) said) (is_named (first_number l) l.polled said) (told_line (below_said (first_number l) said) said l) (listened_heard rules l s said is none)
