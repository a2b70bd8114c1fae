-- The SDU that the pass finds is the one that the sender discards.
use Rattle.std.proofs.Common.{◌≡◌, ◌+◌, ◌-◌, ◌<◌, ◌≤◌, ℕ, zero, suc, List, [], ◌∷◌, Bool, true, false, cond, ◌&&◌, ◌||◌, length, take, arith, refl, sym, ap, ap₂, ◌∙◌, subst, ⊎_elim, length-drop}
use Rattle.std.specs.Prelude.{◌==◌, IfSome, Option, Some, None, min, nat_le, nat_lt, slice_index}
use Rattle.std.proofs.Math.Seq.{take-length}
use Rattle.std.proofs.lemmas.Bool.{and_left, both_ways, cases_lt, cond-false, le-leb, lt-leb, lt-ltb, ltb-true}
use Rattle.std.proofs.lemmas.Bool.Decides.{nat_tests}
use Rattle.dch_types.specs.declared.bearer.AmRules.{AmRules}
use Rattle.dch_retx.specs.declared.sent_pdu.SentPdu.{SentPdu}
use Rattle.dch_retx.specs.Flights.{at, ends_in}
use Rattle.dch_am.specs.Bodies.{ends, ends_of}
use Rattle.dch_am.specs.Building.{body_at}
use Rattle.dch_am.specs.Cuts.{IsCut}
use Rattle.dch_am.specs.Discards.{can_take, count, discards, discards_at, due_by_age, due_by_sending, place_from}
use Rattle.dch_am.specs.Rules.{Rules, rules_of}
use Rattle.dch_am.specs.Sender.{Sender, vt_a}
use Rattle.dch_am.proofs.Reading.{cut_few, ends_split}
use Rattle.dch_amsend.specs.SduDiscard.{SduDiscard, age_at}
use Rattle.dch_amsend.specs.DiscardStanding.{DiscardStands, released}
use Rattle.dch_retx.specs.RetxBuffer.{RetxBuffer}
use Rattle.dch_retx.specs.Standing.{IsInFlight, Stands as LineStands}
use Rattle.dch_amsend.specs.BufferStanding.{HasBody}
use Rattle.dch_amsend.specs.declared.scan.Overdue.{Overdue}
use Rattle.dch_amsend.specs.declared.scan.Scan.{Scan}
use Rattle.dch_amsend.specs.Scanning.{after_pdu, after_pdus, can_discard, indicator_of, is_old, last_in, no_scan, overdue}
use Rattle.dch_amsend.specs.Discarding.{discarded_by}
use Rattle.dch_amsend.proofs.Ending.{ends-step, indicator_in, place-at, place-past, place_low}
use Rattle.dch_amsend.proofs.Requested.{IsPdu, ExactlyBegun, begun-step, due_is}

-- the SDUs that are held as they stand in a sender
record AreSdus (buffer : ℕ) (rules : AmRules) (h : SduDiscard) (s : Sender) : Type 0 where
  old : (u : ℕ) → u < length h.ages → is_old rules h u ≡ due_by_age (rules_of buffer rules) s (released s + u)
  passed : (u : ℕ) → nat_le h.passed u ≡ nat_le s.dropped (released s + u)
  count : released s + length h.ages ≡ length s.accepted
  few : ends s.bodies ≤ length s.accepted

-- a pass has come to PDU k
record IsAt (buffer : ℕ) (rules : AmRules) (s : Sender) (k place : ℕ) (scan : Scan) : Type 0 where
  number : vt_a s + place ≡ k
  sdu : scan.sdu + released s ≡ ends (take k s.bodies)
  begun : ExactlyBegun scan.begun s rules.discard_sent k
  found : discards (rules_of buffer rules) s (ends (take k s.bodies)) ≡ discarded_by scan.found s

-- one SDU
one_is : (buffer : ℕ) (rules : AmRules) (h : SduDiscard) (s : Sender) (k place : ℕ) (f : SentPdu) (scan : Scan) (j : ℕ) → AreSdus buffer rules h s → IsAt buffer rules s k place scan → IsPdu rules s k f → j < ends_of (body_at s.bodies k) → can_discard rules h f scan j ≡ can_take (rules_of buffer rules) s (ends (take k s.bodies) + j) (place_from s.bodies 0 (ends (take k s.bodies) + j))
one_is buffer rules h s k place f scan j sdus is pdu l =
    ap₂ (λ a b. a && b) (ap₂ (λ a b. a && b) (ap₂ (λ a b. a && b) first indicator) passed) (ap₂ (λ a b. a || b) old (due_is buffer rules s k j f scan.begun pdu is.begun l))
    ∙ sym (ap (can_take (rules_of buffer rules) s (ends (take k s.bodies) + j)) (place-at s.bodies 0 k j pdu.inside l))
  where
    same : released s + (scan.sdu + j) ≡ ends (take k s.bodies) + j
    same = omega (arith, is.sdu)

    inside : scan.sdu + j < length h.ages
    inside = omega (arith, is.sdu, sdus.count, sdus.few, ends-step s.bodies k pdu.inside, ends_split (k + 1) s.bodies)

    first : nat_lt (scan.sdu + j) (length h.ages) ≡ nat_le (vt_a s) (0 + k)
    first = lt-ltb (scan.sdu + j) (length h.ages) inside ∙ sym (le-leb (vt_a s) (0 + k) (omega (arith, is.number)))

    indicator : nat_le (indicator_of f j) 15 ≡ nat_le (indicator_in (body_at s.bodies k) j) 15
    indicator = ap (λ b. nat_le (cond (b && (j == 0)) 0 (j + 1)) 15) pdu.full

    passed : nat_le h.passed (scan.sdu + j) ≡ nat_le s.dropped (ends (take k s.bodies) + j)
    passed = sdus.passed (scan.sdu + j) ∙ ap (nat_le s.dropped) same

    old : is_old rules h (scan.sdu + j) ≡ due_by_age (rules_of buffer rules) s (ends (take k s.bodies) + j)
    old = sdus.old (scan.sdu + j) inside ∙ ap (due_by_age (rules_of buffer rules) s) same

-- one step of the choice
choose : (s x y : Sender) (o : Overdue) (l : Option Overdue) (c b : Bool) → b ≡ c → x ≡ discarded_by (Some o) s → y ≡ discarded_by l s → cond c x y ≡ discarded_by (cond b (Some o) l) s
choose s x y o l true true e p q = p
choose s x y o l true false e p q = absurd (both_ways false refl e)
choose s x y o l false true e p q = absurd (both_ways true e refl)
choose s x y o l false false e p q = q

-- the first SDUs that end in a PDU
sdus_are : (buffer : ℕ) (rules : AmRules) (h : SduDiscard) (s : Sender) (k place : ℕ) (f : SentPdu) (scan : Scan) (n : ℕ) → AreSdus buffer rules h s → IsAt buffer rules s k place scan → IsPdu rules s k f → n ≤ ends_of (body_at s.bodies k) → discards (rules_of buffer rules) s (ends (take k s.bodies) + n) ≡ discarded_by (last_in rules h place f scan n) s
sdus_are buffer rules h s k place f scan zero sdus is pdu l = let none : ends (take k s.bodies) + 0 ≡ ends (take k s.bodies) = omega arith in ap (discards (rules_of buffer rules) s) none ∙ is.found
sdus_are buffer rules h s k place f scan (suc n) sdus is pdu l =
    let next : ends (take k s.bodies) + suc n ≡ suc (ends (take k s.bodies) + n) = omega arith in
    let sdu : ends (take k s.bodies) + n ≡ released s + (scan.sdu + n) = omega (arith, is.sdu) in
    let number : 0 + k ≡ vt_a s + place = omega (arith, is.number) in
    let indicator : indicator_in (body_at s.bodies k) n ≡ indicator_of f n = ap (λ b. cond (b && (n == 0)) 0 (n + 1)) (sym pdu.full) in
    let where_is : place_from s.bodies 0 (ends (take k s.bodies) + n) ≡ Some (vt_a s + place, indicator_of f n) = place-at s.bodies 0 k n pdu.inside (omega arith) ∙ ap₂ (λ a b. Some (a, b)) number indicator in
    ap (discards (rules_of buffer rules) s) next
    ∙ choose s (discards_at s (ends (take k s.bodies) + n) (place_from s.bodies 0 (ends (take k s.bodies) + n))) (discards (rules_of buffer rules) s (ends (take k s.bodies) + n)) (record { sdu = scan.sdu + n; place = place; indicator = indicator_of f n }) (last_in rules h place f scan n) (can_take (rules_of buffer rules) s (ends (take k s.bodies) + n) (place_from s.bodies 0 (ends (take k s.bodies) + n))) (can_discard rules h f scan n) (one_is buffer rules h s k place f scan n sdus is pdu (omega arith)) (ap₂ (discards_at s) sdu where_is) (sdus_are buffer rules h s k place f scan n sdus is pdu (omega arith))

-- one PDU
pdu_is : (buffer : ℕ) (rules : AmRules) (h : SduDiscard) (s : Sender) (k place : ℕ) (f : SentPdu) (scan : Scan) → AreSdus buffer rules h s → IsAt buffer rules s k place scan → IsPdu rules s k f → IsAt buffer rules s (k + 1) (place + 1) (after_pdu rules h place f scan)
pdu_is buffer rules h s k place f scan sdus is pdu =
    let more : ends (take (k + 1) s.bodies) ≡ ends (take k s.bodies) + (ends_in f) = omega (arith, ends-step s.bodies k pdu.inside, pdu.ends_are) in
    record {
      number = omega (arith, is.number);
      sdu = omega (arith, more, is.sdu);
      begun = begun-step rules s k f scan.begun pdu is.begun;
      found = ap (discards (rules_of buffer rules) s) more ∙ sdus_are buffer rules h s k place f scan (ends_in f) sdus is pdu (omega (arith, pdu.ends_are));
    }

-- the PDUs from one on
pdus_are : (buffer : ℕ) (rules : AmRules) (h : SduDiscard) (s : Sender) (in_flight : List SentPdu) (k place : ℕ) (scan : Scan) → AreSdus buffer rules h s → IsAt buffer rules s k place scan → k + length in_flight ≡ length s.bodies → ((i : ℕ) → i < length in_flight → IsPdu rules s (k + i) (at in_flight i)) → discards (rules_of buffer rules) s (ends s.bodies) ≡ discarded_by (after_pdus rules h place in_flight scan).found s
pdus_are buffer rules h s [] k place scan sdus is long all =
    let all_of : k ≡ length s.bodies = omega (arith, long) in
    let same : ends s.bodies ≡ ends (take k s.bodies) = sym (ap (λ n. ends (take n s.bodies)) all_of ∙ ap ends (take-length s.bodies)) in
    ap (discards (rules_of buffer rules) s) same ∙ is.found
pdus_are buffer rules h s (f ∷ in_flight) k place scan sdus is long all =
    let none : k + 0 ≡ k = omega arith in
    let pdu : IsPdu rules s k f = subst (λ n. IsPdu rules s n f) none (all 0 (omega arith)) in
    pdus_are buffer rules h s in_flight (k + 1) (place + 1) (after_pdu rules h place f scan) sdus (pdu_is buffer rules h s k place f scan sdus is pdu) (omega (arith, long)) (λ i l. let e : k + suc i ≡ (k + 1) + i = omega arith in subst (λ n. IsPdu rules s n (at in_flight i)) e (all (suc i) (omega arith)))

-- SDUs of PDUs that are acknowledged aren't discarded
low_is : (rules : Rules) (s : Sender) (i : ℕ) (p : Option (ℕ × ℕ)) → IfSome p (λ q. q.0 < 0 + vt_a s) → can_take rules s i p ≡ false
low_is rules s i None l = refl
low_is rules s i (Some p) l =
    and_left (nat_le (vt_a s) p.0 && nat_le p.1 15 && nat_le s.dropped i) (due_by_age rules s i || due_by_sending rules s i) (and_left (nat_le (vt_a s) p.0 && nat_le p.1 15) (nat_le s.dropped i) (and_left (nat_le (vt_a s) p.0) (nat_le p.1 15) (lt-leb (vt_a s) p.0 (omega (arith, l)))))

-- so none below them is
discards-low : (rules : Rules) (s : Sender) (n : ℕ) → n ≤ released s → discards rules s n ≡ s
discards-low rules s zero l = refl
discards-low rules s (suc i) l = cond-false (can_take rules s i (place_from s.bodies 0 i)) (discards_at s i (place_from s.bodies 0 i)) (discards rules s i) (low_is rules s i (place_from s.bodies 0 i) (place_low s.bodies 0 i (vt_a s) (omega arith))) ∙ discards-low rules s i (omega arith)

-- nor are those that end in no PDU
discards-past : (rules : Rules) (s : Sender) (n : ℕ) → ends s.bodies ≤ n → discards rules s n ≡ discards rules s (ends s.bodies)
discards-past rules s zero l = let none : 0 ≡ ends s.bodies = omega arith in ap (discards rules s) none
discards-past rules s (suc i) l = ⊎_elim
    (λ (h : i < ends s.bodies). let last : suc i ≡ ends s.bodies = omega arith in ap (discards rules s) last)
    (λ (h : ends s.bodies ≤ i). cond-false (can_take rules s i (place_from s.bodies 0 i)) (discards_at s i (place_from s.bodies 0 i)) (discards rules s i) (ap (can_take rules s i) (place-past s.bodies 0 i h)) ∙ discards-past rules s i h)
    (cases_lt i (ends s.bodies))

-- a count that ends at a greatest number is compared alike below it
saturated : (a most n : ℕ) → a ≤ most → nat_le a (min most n) ≡ nat_le a n
saturated a most n l = grind (arith, nat_tests)

-- what is held stands for the SDUs so
sdus_hold : (buffer : ℕ) (rules : AmRules) (h : SduDiscard) (s : Sender) → rules.discard_age ≤ 65535 → DiscardStands (rules_of buffer rules) h s → IsCut s.accepted s.unsent s.bodies → AreSdus buffer rules h s
sdus_hold buffer rules h s small is cut = record {
  old = old;
  passed = λ u. subst (λ n. nat_le n u ≡ nat_le s.dropped (released s + u)) (sym is.passed) (later s.dropped (released s) u);
  count = omega (arith, is.count, length-drop (released s) s.accepted, ends_split (vt_a s) s.bodies, few);
  few = few;
}
  where
    few : ends s.bodies ≤ length s.accepted
    few = cut_few s.accepted s.unsent s.bodies cut

    later : (a b u : ℕ) → nat_le (a - b) u ≡ nat_le a (b + u)
    later a b u = grind (arith, nat_tests)

    old : (u : ℕ) → u < length h.ages → is_old rules h u ≡ due_by_age (rules_of buffer rules) s (released s + u)
    old u l = go (nat_lt 0 rules.discard_age) refl
      where
        go : (b : Bool) → nat_lt 0 rules.discard_age ≡ b → (b && nat_le rules.discard_age (age_at h u)) ≡ (b && nat_le rules.discard_age (s.ticks - slice_index s.accepted_at (released s + u)))
        go true e = ap (nat_le rules.discard_age) (is.ages u l (ltb-true 0 rules.discard_age e)) ∙ saturated rules.discard_age 65535 (s.ticks - slice_index s.accepted_at (released s + u)) small
        go false e = refl

-- what is kept of a PDU stands for it so
pdu_holds : (rules : AmRules) (s : Sender) (d k : ℕ) (f : SentPdu) → rules.discard_sent ≤ 255 → k < length s.bodies → IsInFlight s k f → HasBody d f (body_at s.bodies k) → IsPdu rules s k f
pdu_holds rules s d k f small inside is has = record {
  requested = is.requested;
  enough = ap (nat_le rules.discard_sent) is.builds ∙ saturated rules.discard_sent 255 (count k s.sendings) small;
  full = has.full;
  ends_are = has.ends;
  goes = has.continues;
  inside = inside;
}

-- after all PDUs, and with the SDUs that end in none
pub overdue_is : (buffer d : ℕ) (rules : AmRules) (l : RetxBuffer) (h : SduDiscard) (s : Sender) → rules.discard_age ≤ 65535 → rules.discard_sent ≤ 255 → LineStands (rules_of buffer rules) l s → DiscardStands (rules_of buffer rules) h s → IsCut s.accepted s.unsent s.bodies → ((i : ℕ) → i < length l.in_flight → HasBody d (at l.in_flight i) (body_at s.bodies (vt_a s + i))) → discards (rules_of buffer rules) s (length s.accepted) ≡ discarded_by (overdue rules h l.in_flight) s
overdue_is buffer d rules l h s age sent stands holds cut has =
    discards-past (rules_of buffer rules) s (length s.accepted) (cut_few s.accepted s.unsent s.bodies cut)
    ∙ pdus_are buffer rules h s l.in_flight (vt_a s) 0 no_scan (sdus_hold buffer rules h s age holds cut) begins stands.flying (λ i less. pdu_holds rules s d (vt_a s + i) (at l.in_flight i) sent (omega (arith, stands.flying)) (stands.in_flight i less) (has i less))
  where
    begins : IsAt buffer rules s (vt_a s) 0 no_scan
    begins = record {
      number = omega arith;
      sdu = omega arith;
      begun = record { holds = λ e. absurd (both_ways false refl e); told = λ at b. absurd (omega (arith, b.before, (stands.requested at b.asked.asked).from)) };
      found = discards-low (rules_of buffer rules) s (released s) (omega arith);
    }
