-- Which SDU is discarded at a tick (TS 25.322 9.7.3), by one pass over the PDUs in flight: the SDUs that end in them,
-- one after another.
use Rattle.std.specs.Prelude.{◌+◌, ℕ, zero, suc, List, [], ◌∷◌, Bool, false, ◌&&◌, ◌||◌, drop, length, nat_lt, nat_le, ◌==◌, if◌then◌else◌, Option, Some, None}
use Rattle.dch_types.specs.declared.bearer.AmRules.{AmRules}
use Rattle.dch_retx.specs.declared.sent_pdu.SentPdu.{SentPdu}
use Rattle.dch_retx.specs.Flights.{continues_in, ends_in, first_requested}
use Rattle.dch_amsend.specs.SduDiscard.{SduDiscard, age_at}
use Rattle.dch_amsend.specs.declared.scan.Overdue.{Overdue}
use Rattle.dch_amsend.specs.declared.scan.Scan.{Scan}

-- a PDU is requested and was built often enough
abbrev pub is_often : AmRules → SentPdu → Bool
is_often rules f = nat_lt 0 rules.discard_sent && f.requested && nat_le rules.discard_sent f.builds

-- an SDU is old enough
abbrev pub is_old : AmRules → SduDiscard → ℕ → Bool
is_old rules h sdu = nat_lt 0 rules.discard_age && nat_le rules.discard_age (age_at h sdu)

-- the place of the length indicator of the SDU that ends in a PDU behind j others
abbrev pub indicator_of : SentPdu → ℕ → ℕ
indicator_of f j = if f.full && (j == 0) then 0 else j + 1

-- that SDU can be discarded: it is held and was not discarded yet, and its place has four bits
abbrev pub can_discard : AmRules → SduDiscard → SentPdu → Scan → ℕ → Bool
can_discard rules h f scan j =
    nat_lt (scan.sdu + j) (length h.ages) && nat_le (indicator_of f j) 15 && nat_le h.passed (scan.sdu + j)
    && (is_old rules h (scan.sdu + j) || (is_often rules f || ((j == 0) && scan.begun)))

-- the last that can be, up to the first so many that end in a PDU
abbrev pub last_in : AmRules → SduDiscard → ℕ → SentPdu → Scan → ℕ → Option Overdue
last_in rules h place f scan zero = scan.found
last_in rules h place f scan (suc j) =
    if can_discard rules h f scan j then Some (record {
      sdu = scan.sdu + j;
      place = place;
      indicator = indicator_of f j;
    })
    else last_in rules h place f scan j

-- after one more PDU. An SDU that began before goes on where none ends
abbrev pub after_pdu : AmRules → SduDiscard → ℕ → SentPdu → Scan → Scan
after_pdu rules h place f scan = record {
  sdu = scan.sdu + (ends_in f);
  begun = (is_often rules f && (continues_in f)) || (((ends_in f) == 0) && scan.begun);
  found = last_in rules h place f scan (ends_in f);
}

-- after the PDUs from a place on
abbrev pub after_pdus : AmRules → SduDiscard → ℕ → List SentPdu → Scan → Scan
after_pdus rules h place [] scan = scan
after_pdus rules h place (f ∷ in_flight) scan = after_pdus rules h (place + 1) in_flight
    (after_pdu rules h place f scan)

-- how many SDUs end in so many PDUs in front
abbrev pub ends_below : ℕ → List SentPdu → ℕ
ends_below zero in_flight = 0
ends_below (suc n) [] = 0
ends_below (suc n) (f ∷ in_flight) = ends_in f + ends_below n in_flight

-- what a pass finds that goes on at a place, where an SDU that began before goes on and one was found before
abbrev pub found_from : AmRules → SduDiscard → ℕ → List SentPdu → Scan → Option Overdue
found_from rules h place in_flight scan = (after_pdus rules h place (drop place in_flight)
    (record scan { sdu = ends_below place in_flight })).found

-- the SDU behind so many others is held and old enough
abbrev pub is_next_old : AmRules → SduDiscard → ℕ → Bool
is_next_old rules h sdu = nat_lt sdu (length h.ages) && is_old rules h sdu

-- the first requested PDU from a place on, where one that was built often enough is discarded, or the end
abbrev pub requested_place : AmRules → ℕ → List SentPdu → ℕ
requested_place rules place in_flight = if nat_lt 0 rules.discard_sent
    then place + first_requested (drop place in_flight) else length in_flight

-- the next PDU that is looked at: the one at the place while an SDU goes on that began in one that was built often
-- enough, or where the next SDU is old enough
abbrev pub next_place : AmRules → SduDiscard → ℕ → List SentPdu → Scan → ℕ
next_place rules h place in_flight scan = if scan.begun || is_next_old rules h scan.sdu then place
    else requested_place rules place in_flight

-- the first one
abbrev pub first_place : AmRules → SduDiscard → List SentPdu → ℕ
first_place rules h in_flight = if is_next_old rules h h.passed then 0 else requested_place rules 0 in_flight

-- before the first
abbrev pub no_scan : Scan
no_scan = record { sdu = 0; begun = false; found = None }

-- the last SDU that can be discarded
abbrev pub overdue : AmRules → SduDiscard → List SentPdu → Option Overdue
overdue rules h in_flight = (after_pdus rules h 0 in_flight no_scan).found
