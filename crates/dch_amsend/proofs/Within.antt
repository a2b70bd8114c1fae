-- The SDU that is found is held, its PDU is in flight, and its place has four bits.
use Rattle.std.proofs.Common.{◌≡◌, ◌+◌, ◌<◌, ◌≤◌, ℕ, zero, suc, List, [], ◌∷◌, true, ◌&&◌, ◌||◌, length, arith}
use Rattle.std.specs.Prelude.{◌==◌, IfSome, Option, nat_le, nat_lt}
use Rattle.std.proofs.lemmas.Bool.{and_parts, cond_both, leb-true, ltb-true}
use Rattle.dch_types.specs.declared.bearer.AmRules.{AmRules}
use Rattle.dch_retx.specs.declared.sent_pdu.SentPdu.{SentPdu}
use Rattle.dch_retx.specs.Flights.{ends_in}
use Rattle.dch_amsend.specs.SduDiscard.{SduDiscard}
use Rattle.dch_amsend.specs.declared.scan.Overdue.{Overdue}
use Rattle.dch_amsend.specs.declared.scan.Scan.{Scan}
use Rattle.dch_amsend.specs.Scanning.{after_pdu, after_pdus, can_discard, indicator_of, is_often, is_old, last_in, no_scan, overdue}

-- these bounds, where so many PDUs are in flight
abbrev pub IsWithin : SduDiscard → ℕ → Overdue → Type 0
IsWithin h flying o = (o.place < flying) × (o.sdu < length h.ages) × (o.indicator < 16) × (h.passed ≤ o.sdu)

-- what an SDU that can be discarded keeps
one_within : (rules : AmRules) (h : SduDiscard) (place flying : ℕ) (f : SentPdu) (scan : Scan) (j : ℕ) → place < flying → can_discard rules h f scan j ≡ true → IsWithin h flying (record { sdu = scan.sdu + j; place = place; indicator = indicator_of f j })
one_within rules h place flying f scan j l e =
    let a = and_parts (nat_lt (scan.sdu + j) (length h.ages) && nat_le (indicator_of f j) 15 && nat_le h.passed (scan.sdu + j)) (is_old rules h (scan.sdu + j) || (is_often rules f || ((j == 0) && scan.begun))) e in
    let b = and_parts (nat_lt (scan.sdu + j) (length h.ages) && nat_le (indicator_of f j) 15) (nat_le h.passed (scan.sdu + j)) a.0 in
    let d = and_parts (nat_lt (scan.sdu + j) (length h.ages)) (nat_le (indicator_of f j) 15) b.0 in
    let small : indicator_of f j ≤ 15 = leb-true (indicator_of f j) 15 d.1 in
    (l, ltb-true (scan.sdu + j) (length h.ages) d.0, omega (arith, small), leb-true h.passed (scan.sdu + j) b.1)

-- so does the last of a PDU
last_within : (rules : AmRules) (h : SduDiscard) (place flying : ℕ) (f : SentPdu) (scan : Scan) (n : ℕ) → place < flying → IfSome scan.found (IsWithin h flying) → IfSome (last_in rules h place f scan n) (IsWithin h flying)
last_within rules h place flying f scan zero l w = w
last_within rules h place flying f scan (suc j) l w = cond_both (can_discard rules h f scan j) _ _ (λ (o : Option Overdue). IfSome o (IsWithin h flying)) (λ e. one_within rules h place flying f scan j l e) (λ _. last_within rules h place flying f scan j l w)

-- and of the PDUs from one on
pdus_within : (rules : AmRules) (h : SduDiscard) (place flying : ℕ) (in_flight : List SentPdu) (scan : Scan) → place + length in_flight ≤ flying → IfSome scan.found (IsWithin h flying) → IfSome (after_pdus rules h place in_flight scan).found (IsWithin h flying)
pdus_within rules h place flying [] scan l w = w
pdus_within rules h place flying (f ∷ in_flight) scan l w = pdus_within rules h (place + 1) flying in_flight (after_pdu rules h place f scan) (omega arith) (last_within rules h place flying f scan (ends_in f) (omega arith) w)

-- and of all
pub overdue_within : (rules : AmRules) (h : SduDiscard) (in_flight : List SentPdu) → IfSome (overdue rules h in_flight) (IsWithin h (length in_flight))
overdue_within rules h in_flight = pdus_within rules h 0 (length in_flight) in_flight no_scan (omega arith) tt
