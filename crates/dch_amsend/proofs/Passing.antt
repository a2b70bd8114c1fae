-- Where no SDU can be discarded the pass finds none, and goes on behind these PDUs.
use Rattle.std.proofs.Common.{◌≡◌, ◌+◌, ◌-◌, ◌<◌, ◌≤◌, ℕ, zero, suc, List, [], ◌∷◌, Bool, true, false, cond, ◌&&◌, ◌||◌, length, drop, arith, refl, sym, ap, ap₂, ◌∙◌}
use Rattle.std.specs.Prelude.{◌==◌, Option, Some, None, nat_le, nat_lt}
use Rattle.std.proofs.lemmas.Bool.{both_ways, leb-true, lt-leb, ltb-true}
use Rattle.std.proofs.lemmas.List.{drop-drop}
use Rattle.dch_types.specs.declared.bearer.AmRules.{AmRules}
use Rattle.dch_retx.specs.declared.sent_pdu.SentPdu.{SentPdu}
use Rattle.dch_retx.specs.Flights.{at, continues_in, ends_in, first_requested}
use Rattle.dch_amsend.specs.SduDiscard.{SduDiscard}
use Rattle.dch_amsend.specs.declared.scan.Scan.{Scan}
use Rattle.dch_amsend.specs.declared.scan.Overdue.{Overdue}
use Rattle.dch_amsend.specs.Scanning.{after_pdu, after_pdus, can_discard, ends_below, found_from, indicator_of, is_often, is_old, last_in, no_scan, overdue}

-- of the SDUs from one on, up to another one, each is discarded or not old enough
abbrev pub NoneOld : AmRules → SduDiscard → ℕ → ℕ → Type 0
NoneOld rules h from to = (i : ℕ) → h.passed ≤ i → from ≤ i → i < to → is_old rules h i ≡ false

-- none of so many PDUs is requested, or no SDU is discarded by that
abbrev pub NoneRequested : AmRules → ℕ → List SentPdu → Type 0
NoneRequested rules n in_flight = 0 < rules.discard_sent → n ≤ first_requested in_flight

-- no SDU of such a PDU can be discarded
none_one : (rules : AmRules) (h : SduDiscard) (f : SentPdu) (scan : Scan) (j : ℕ) → is_often rules f ≡ false → scan.begun ≡ false → (h.passed ≤ scan.sdu + j → is_old rules h (scan.sdu + j) ≡ false) → can_discard rules h f scan j ≡ false
none_one rules h f scan j often begun young = go (nat_le h.passed (scan.sdu + j)) refl
  where
    none : (a o c : Bool) → (a && false && (o || c)) ≡ false
    none true o c = refl
    none false o c = refl

    all : (a b o : Bool) → o ≡ false → (a && b && (o || (false || ((j == 0) && false)))) ≡ false
    all a b true e = absurd (both_ways true e refl)
    all false b false e = refl
    all true false false e = refl
    all true true false e = last (j == 0)
      where
        last : (c : Bool) → (c && false) ≡ false
        last true = refl
        last false = refl

    go : (b : Bool) → nat_le h.passed (scan.sdu + j) ≡ b → can_discard rules h f scan j ≡ false
    go false e =
        ap (λ b. nat_lt (scan.sdu + j) (length h.ages) && nat_le (indicator_of f j) 15 && b && (is_old rules h (scan.sdu + j) || (is_often rules f || ((j == 0) && scan.begun)))) e
        ∙ none (nat_lt (scan.sdu + j) (length h.ages) && nat_le (indicator_of f j) 15) (is_old rules h (scan.sdu + j)) (is_often rules f || ((j == 0) && scan.begun))
    go true e =
        ap₂ (λ o c. nat_lt (scan.sdu + j) (length h.ages) && nat_le (indicator_of f j) 15 && nat_le h.passed (scan.sdu + j) && (is_old rules h (scan.sdu + j) || (o || ((j == 0) && c)))) often begun
        ∙ all (nat_lt (scan.sdu + j) (length h.ages) && nat_le (indicator_of f j) 15) (nat_le h.passed (scan.sdu + j)) (is_old rules h (scan.sdu + j)) (young (leb-true h.passed (scan.sdu + j) e))

none_last : (rules : AmRules) (h : SduDiscard) (place : ℕ) (f : SentPdu) (scan : Scan) (n : ℕ) → is_often rules f ≡ false → scan.begun ≡ false → NoneOld rules h scan.sdu (scan.sdu + n) → last_in rules h place f scan n ≡ scan.found
none_last rules h place f scan zero often begun young = refl
none_last rules h place f scan (suc j) often begun young =
    ap (λ b. cond b (Some (record { sdu = scan.sdu + j; place = place; indicator = indicator_of f j })) (last_in rules h place f scan j)) (none_one rules h f scan j often begun (λ l. young (scan.sdu + j) l (omega arith) (omega arith)))
    ∙ none_last rules h place f scan j often begun (λ i l m n. young i l m (omega (arith, n)))

-- the first PDU, and those behind it
none_first : (rules : AmRules) (f : SentPdu) (n : ℕ) (in_flight : List SentPdu) → NoneRequested rules (suc n) (f ∷ in_flight) → (is_often rules f ≡ false) × NoneRequested rules n in_flight
none_first rules f n in_flight none = (go (nat_lt 0 rules.discard_sent) f.requested refl refl, λ l. behind f.requested (none l))
  where
    behind : (b : Bool) → suc n ≤ cond b 0 (suc (first_requested in_flight)) → n ≤ first_requested in_flight
    behind true l = absurd (omega (arith, l))
    behind false l = omega (arith, l)

    here : (b : Bool) → f.requested ≡ b → suc n ≤ cond f.requested 0 (suc (first_requested in_flight)) → b ≡ false
    here true e l = absurd (omega (arith, ap (λ c. cond c 0 (suc (first_requested in_flight))) e, l))
    here false e l = refl

    off : (a c : Bool) → (a && false && c) ≡ false
    off true c = refl
    off false c = refl

    go : (a b : Bool) → nat_lt 0 rules.discard_sent ≡ a → f.requested ≡ b → is_often rules f ≡ false
    go false b ea eb = ap (λ x. x && f.requested && nat_le rules.discard_sent f.builds) ea
    go true b ea eb = ap (λ x. nat_lt 0 rules.discard_sent && x && nat_le rules.discard_sent f.builds) (eb ∙ here b eb (none (ltb-true 0 rules.discard_sent ea))) ∙ off (nat_lt 0 rules.discard_sent) (nat_le rules.discard_sent f.builds)

none_begun : (rules : AmRules) (f : SentPdu) (scan : Scan) → is_often rules f ≡ false → scan.begun ≡ false → ((is_often rules f && (continues_in f)) || (((ends_in f) == 0) && scan.begun)) ≡ false
none_begun rules f scan often begun = ap₂ (λ o c. (o && (continues_in f)) || (((ends_in f) == 0) && c)) often begun ∙ last ((ends_in f) == 0)
  where
    last : (c : Bool) → (c && false) ≡ false
    last true = refl
    last false = refl

-- so the pass finds the same from the PDU behind so many on
from_place : (rules : AmRules) (h : SduDiscard) (in_flight : List SentPdu) (p q u v : ℕ) (a b : Option Overdue) → p ≡ q → u ≡ v → a ≡ b → (after_pdus rules h p in_flight (record { sdu = u; begun = false; found = a })).found ≡ (after_pdus rules h q in_flight (record { sdu = v; begun = false; found = b })).found
from_place rules h in_flight p q u v a b e f g =
    ap (λ k. (after_pdus rules h k in_flight (record { sdu = u; begun = false; found = a })).found) e
    ∙ ap₂ (λ n o. (after_pdus rules h q in_flight (record { sdu = n; begun = false; found = o })).found) f g

passes_over : (rules : AmRules) (h : SduDiscard) (n place : ℕ) (in_flight : List SentPdu) (scan : Scan) → NoneRequested rules n in_flight → scan.begun ≡ false → NoneOld rules h scan.sdu (scan.sdu + ends_below n in_flight) → (after_pdus rules h place in_flight scan).found ≡ (after_pdus rules h (place + n) (drop n in_flight) (record { sdu = scan.sdu + ends_below n in_flight; begun = false; found = scan.found })).found
passes_over rules h zero place in_flight scan none begun young =
    ap (λ b. (after_pdus rules h place in_flight (record { sdu = scan.sdu; begun = b; found = scan.found })).found) begun
    ∙ from_place rules h in_flight place (place + 0) scan.sdu (scan.sdu + 0) scan.found scan.found (omega arith) (omega arith) refl
passes_over rules h (suc n) place [] scan none begun young = refl
passes_over rules h (suc n) place (f ∷ in_flight) scan none begun young =
    let parts = none_first rules f n in_flight none in
    passes_over rules h n (place + 1) in_flight (after_pdu rules h place f scan) parts.1 (none_begun rules f scan parts.0 begun) (λ i l m k. young i l (omega (arith, m)) (omega (arith, k)))
    ∙ from_place rules h (drop n in_flight) (place + 1 + n) (place + suc n) (scan.sdu + ends_in f + ends_below n in_flight) (scan.sdu + (ends_in f + ends_below n in_flight)) (last_in rules h place f scan (ends_in f)) scan.found (omega arith) (omega arith) (none_last rules h place f scan (ends_in f) parts.0 begun (λ i l m k. young i l m (omega (arith, k))))

-- where it begins
pub begins_at : (rules : AmRules) (h : SduDiscard) (first : ℕ) (in_flight : List SentPdu) → NoneRequested rules first in_flight → ((i : ℕ) → h.passed ≤ i → i < ends_below first in_flight → is_old rules h i ≡ false) → found_from rules h first in_flight no_scan ≡ overdue rules h in_flight
begins_at rules h first in_flight none young =
    from_place rules h (drop first in_flight) first (0 + first) (ends_below first in_flight) (0 + ends_below first in_flight) None None (omega arith) (omega arith) refl
    ∙ sym (passes_over rules h first 0 in_flight no_scan none refl (λ i l m k. young i l (omega (arith, k))))

-- how many SDUs end behind more PDUs
below_none : (n : ℕ) → ends_below n [] ≡ 0
below_none zero = refl
below_none (suc n) = refl

below_more : (a n : ℕ) (in_flight : List SentPdu) → ends_below (a + n) in_flight ≡ ends_below a in_flight + ends_below n (drop a in_flight)
below_more zero n in_flight = let e : 0 + n ≡ n = omega arith in ap (λ k. ends_below k in_flight) e ∙ omega arith
below_more (suc a) n [] = omega (arith, below_none (suc a + n), below_none n)
below_more (suc a) n (f ∷ in_flight) = let e : suc a + n ≡ suc (a + n) = omega arith in ap (λ k. ends_below k (f ∷ in_flight)) e ∙ omega (arith, below_more a n in_flight)

pub below_next : (in_flight : List SentPdu) (n : ℕ) → n < length in_flight → ends_below (suc n) in_flight ≡ ends_below n in_flight + ends_in (at in_flight n)
below_next [] n l = absurd (omega arith)
below_next (f ∷ in_flight) zero l = omega arith
below_next (f ∷ in_flight) (suc n) l = omega (arith, below_next in_flight n (omega arith))

-- one PDU more
step_at : (rules : AmRules) (h : SduDiscard) (place i : ℕ) (in_flight : List SentPdu) (scan : Scan) → i < length in_flight → (after_pdus rules h place (drop i in_flight) scan).found ≡ (after_pdus rules h (place + 1) (drop (i + 1) in_flight) (after_pdu rules h place (at in_flight i) scan)).found
step_at rules h place i [] scan l = absurd (omega arith)
step_at rules h place zero (f ∷ in_flight) scan l = refl
step_at rules h place (suc i) (f ∷ in_flight) scan l =
    let n : suc i + 1 ≡ suc (i + 1) = omega arith in
    step_at rules h place i in_flight scan (omega arith)
    ∙ sym (ap (λ k. (after_pdus rules h (place + 1) (drop k (f ∷ in_flight)) (after_pdu rules h place (at in_flight i) scan)).found) n)

-- the pass behind it
pub record IsPassed (rules : AmRules) (h : SduDiscard) (place : ℕ) (in_flight : List SentPdu) (scan now : Scan) : Type 0 where
  pub sdu : now.sdu ≡ ends_below (place + 1) in_flight
  pub found : found_from rules h place in_flight scan ≡ found_from rules h (place + 1) in_flight now

pub passes_one : (rules : AmRules) (h : SduDiscard) (place : ℕ) (in_flight : List SentPdu) (scan now : Scan) (sdu : ℕ) (f : SentPdu) → sdu ≡ ends_below place in_flight → f ≡ at in_flight place → place < length in_flight → now ≡ after_pdu rules h place f (record scan { sdu = sdu }) → IsPassed rules h place in_flight scan now
passes_one rules h place in_flight scan now sdu f e q l is =
    let here : now ≡ after_pdu rules h place (at in_flight place) (record scan { sdu = ends_below place in_flight }) = is ∙ ap₂ (λ n g. after_pdu rules h place g (record scan { sdu = n })) e q in
    let n : place + 1 ≡ suc place = omega arith in
    let ends : now.sdu ≡ ends_below (place + 1) in_flight = ap (λ (a : Scan). a.sdu) here ∙ sym (ap (λ k. ends_below k in_flight) n ∙ below_next in_flight place l) in
    record {
      sdu = ends;
      found =
          step_at rules h place place in_flight (record scan { sdu = ends_below place in_flight }) l
          ∙ ap (λ a. (after_pdus rules h (place + 1) (drop (place + 1) in_flight) a).found) (sym here)
          ∙ ap (λ k. (after_pdus rules h (place + 1) (drop (place + 1) in_flight) (record now { sdu = k })).found) ends;
    }

-- from another place on, where none between is requested and no SDU is old enough
pub found_behind : (rules : AmRules) (h : SduDiscard) (place next : ℕ) (in_flight : List SentPdu) (scan : Scan) → place ≤ next → NoneRequested rules (next - place) (drop place in_flight) → scan.begun ≡ false → ((i : ℕ) → ends_below place in_flight ≤ i → is_old rules h i ≡ false) → found_from rules h place in_flight scan ≡ found_from rules h next in_flight scan
found_behind rules h place next in_flight scan l none begun young =
    let e : place + (next - place) ≡ next = omega arith in
    let ends : ends_below place in_flight + ends_below (next - place) (drop place in_flight) ≡ ends_below next in_flight = sym (below_more place (next - place) in_flight) ∙ ap (λ n. ends_below n in_flight) e in
    passes_over rules h (next - place) place (drop place in_flight) (record scan { sdu = ends_below place in_flight }) none begun (λ i a b c. young i b)
    ∙ ap (λ fs. (after_pdus rules h (place + (next - place)) fs (record { sdu = ends_below place in_flight + ends_below (next - place) (drop place in_flight); begun = false; found = scan.found })).found) (drop-drop (next - place) place in_flight ∙ ap (λ n. drop n in_flight) e)
    ∙ from_place rules h (drop next in_flight) (place + (next - place)) next (ends_below place in_flight + ends_below (next - place) (drop place in_flight)) (ends_below next in_flight) scan.found scan.found e ends refl
    ∙ ap (λ b. (after_pdus rules h next (drop next in_flight) (record { sdu = ends_below next in_flight; begun = b; found = scan.found })).found) (sym begun)

-- behind the last
all_over : (in_flight : List SentPdu) → drop (length in_flight) in_flight ≡ []
all_over [] = refl
all_over (f ∷ in_flight) = all_over in_flight

pub found_all : (rules : AmRules) (h : SduDiscard) (place : ℕ) (in_flight : List SentPdu) (scan : Scan) → place ≡ length in_flight → found_from rules h place in_flight scan ≡ scan.found
found_all rules h place in_flight scan e =
    ap (λ fs. (after_pdus rules h place fs (record scan { sdu = ends_below place in_flight })).found) (ap (λ n. drop n in_flight) e ∙ all_over in_flight)

-- where all SDUs that end in a PDU are discarded, none is found
behind_none : (rules : AmRules) (h : SduDiscard) (place : ℕ) (f : SentPdu) (scan : Scan) (n : ℕ) → scan.sdu + n ≤ h.passed → last_in rules h place f scan n ≡ scan.found
behind_none rules h place f scan zero l = refl
behind_none rules h place f scan (suc j) l =
    ap (λ b. cond b (Some (record { sdu = scan.sdu + j; place = place; indicator = indicator_of f j })) (last_in rules h place f scan j)) (ap (λ b. nat_lt (scan.sdu + j) (length h.ages) && nat_le (indicator_of f j) 15 && b && (is_old rules h (scan.sdu + j) || (is_often rules f || ((j == 0) && scan.begun)))) (lt-leb h.passed (scan.sdu + j) (omega (arith, l))) ∙ off (nat_lt (scan.sdu + j) (length h.ages) && nat_le (indicator_of f j) 15) (is_old rules h (scan.sdu + j) || (is_often rules f || ((j == 0) && scan.begun))))
    ∙ behind_none rules h place f scan j (omega (arith, l))
  where
    off : (a c : Bool) → (a && false && c) ≡ false
    off true c = refl
    off false c = refl

passed_more : (rules : AmRules) (h : SduDiscard) (place : ℕ) (in_flight : List SentPdu) (scan : Scan) → scan.sdu + ends_below (length in_flight) in_flight ≤ h.passed → (after_pdus rules h place in_flight scan).found ≡ scan.found
passed_more rules h place [] scan l = refl
passed_more rules h place (f ∷ in_flight) scan l = passed_more rules h (place + 1) in_flight (after_pdu rules h place f scan) (omega (arith, l)) ∙ behind_none rules h place f scan (ends_in f) (omega (arith, l))

pub passed_all : (rules : AmRules) (h : SduDiscard) (in_flight : List SentPdu) → ends_below (length in_flight) in_flight ≤ h.passed → overdue rules h in_flight ≡ None
passed_all rules h in_flight l = passed_more rules h 0 in_flight no_scan (omega (arith, l))
