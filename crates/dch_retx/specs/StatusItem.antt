-- What a status says about the PDUs in flight, the first of which has this number of 12 bits. So many are in flight.
use Rattle.std.specs.Prelude.{◌+◌, ◌-◌, ◌&&◌, ◌||◌, ◌==◌, ℕ, List, [], ◌∷◌, Bool, true, false, length, min, nat_lt, nat_le, slice_set, Option, Some, None, if◌then◌else◌}
use Rattle.dch_am.specs.Numbers.{wrapped, ahead}
use Rattle.dch_retx.specs.StatusItems.{StatusItem}
use Rattle.dch_retx.specs.StatusItems.{Missing, Unset, Set, Below, Obeyed}
use Rattle.dch_retx.specs.declared.buffer.Running.{Running}
use Rattle.dch_retx.specs.declared.sent_pdu.SentPdu.{SentPdu}
use Rattle.dch_retx.specs.Flights.{at, named_from}

-- the first of two
abbrev pub or_else : Option ℕ → Option ℕ → Option ℕ
or_else None o = o
or_else (Some i) o = Some i

-- where a number stands among them
abbrev pub place_of : ℕ → ℕ → ℕ
place_of first x = ahead first (wrapped x)

-- a number that is neither that of one in flight nor in the window below
abbrev pub is_unknown : ℕ → ℕ → ℕ → ℕ → Bool
is_unknown window first count x = nat_le count (place_of first x) && nat_lt (place_of first x) (4096 - window)

-- what is said is outside: an LSN that isn't the number of one in flight or the next one; a number named missing that
-- isn't one of them; a received one that is unknown
abbrev pub offends : ℕ → ℕ → ℕ → StatusItem → Bool
offends window first count (Missing x) = nat_le count (place_of first x)
offends window first count (Unset x) = false
offends window first count (Set x) = is_unknown window first count x
offends window first count (Below x) = nat_lt count (place_of first x)
offends window first count (Obeyed n sn) = false

abbrev pub number_in : StatusItem → ℕ
number_in (Missing x) = x
number_in (Unset x) = x
number_in (Set x) = x
number_in (Below x) = wrapped x
number_in (Obeyed n sn) = sn

-- the first number that is outside
abbrev pub first_outside : ℕ → ℕ → ℕ → List StatusItem → Option ℕ
first_outside window first count [] = None
first_outside window first count (said ∷ rest) = if offends window first count said then Some (number_in said)
    else first_outside window first count rest

-- from which place on the lowest open PDU leaves it outside
abbrev pub limit_of : ℕ → ℕ → ℕ → StatusItem → ℕ
limit_of window first count (Missing x) = if nat_lt (place_of first x) count then place_of first x + 1 else 0
limit_of window first count (Unset x) = 4097
limit_of window first count (Set x) = if nat_lt (place_of first x) count then 4097
    else place_of first x + 1 - (4096 - window)
limit_of window first count (Below x) = if nat_le (place_of first x) count then place_of first x + 1 else 0
limit_of window first count (Obeyed n sn) = 4097

-- and one of several things
abbrev pub limit_in : ℕ → ℕ → ℕ → List StatusItem → ℕ
limit_in window first count [] = 4097
limit_in window first count (said ∷ rest) = min (limit_of window first count said) (limit_in window first count rest)

-- a PDU in flight is named missing
abbrev pub names_place : ℕ → ℕ → StatusItem → Bool
names_place first i (Missing x) = place_of first x == i
names_place first i (Unset x) = place_of first x == i
names_place first i (Set x) = false
names_place first i (Below x) = false
names_place first i (Obeyed n sn) = false

abbrev pub is_named : ℕ → ℕ → List StatusItem → Bool
is_named first i [] = false
is_named first i (said ∷ rest) = names_place first i said || is_named first i rest

-- the PDU at a place that is in flight is changed
abbrev pub changed_at : (SentPdu → SentPdu) → ℕ → List SentPdu → List SentPdu
changed_at change i in_flight = if nat_lt i (length in_flight) then slice_set in_flight i (change (at in_flight i))
    else in_flight

-- the PDUs with one thing more heard, and with all: those named at a place or behind are requested, and those before
-- another place marked
abbrev pub with_name : ℕ → ℕ → ℕ → StatusItem → List SentPdu → List SentPdu
with_name first from to (Missing x) in_flight = changed_at (named_from from to (place_of first x))
    (place_of first x) in_flight
with_name first from to (Unset x) in_flight = changed_at (named_from from to (place_of first x))
    (place_of first x) in_flight
with_name first from to (Set x) in_flight = in_flight
with_name first from to (Below x) in_flight = in_flight
with_name first from to (Obeyed n sn) in_flight = in_flight

abbrev pub with_names : ℕ → ℕ → ℕ → List StatusItem → List SentPdu → List SentPdu
with_names first from to [] in_flight = in_flight
with_names first from to (said ∷ rest) in_flight = with_names first from to rest
    (with_name first from to said in_flight)

-- the place of the LSN, the first one where there is none
abbrev pub below_said : ℕ → List StatusItem → ℕ
below_said first [] = 0
below_said first (Below x ∷ rest) = place_of first x
below_said first (Missing x ∷ rest) = below_said first rest
below_said first (Unset x ∷ rest) = below_said first rest
below_said first (Set x ∷ rest) = below_said first rest
below_said first (Obeyed n sn ∷ rest) = below_said first rest

-- something is said besides an MRW_ACK
abbrev pub reports_some : List StatusItem → Bool
reports_some [] = false
reports_some (Obeyed n sn ∷ rest) = reports_some rest
reports_some (Missing x ∷ rest) = true
reports_some (Unset x ∷ rest) = true
reports_some (Set x ∷ rest) = true
reports_some (Below x ∷ rest) = true

-- the place below which an MRW_ACK acknowledges all PDUs, where it ends the discard at a place and with an indicator
abbrev pub ends_at : ℕ → ℕ → ℕ → ℕ → ℕ → ℕ → Option ℕ
ends_at first count k indicator n sn =
    if (place_of (wrapped (first + k)) sn == 0) && (n == indicator) then Some k
    else (if nat_lt 0 (place_of (wrapped (first + k)) sn) && nat_le (k + place_of (wrapped (first + k)) sn) count &&
    (n == 0) then Some (k + place_of (wrapped (first + k)) sn) else None)

abbrev pub ends_with : ℕ → ℕ → ℕ → ℕ → StatusItem → Option ℕ
ends_with first count k indicator (Missing x) = None
ends_with first count k indicator (Unset x) = None
ends_with first count k indicator (Set x) = None
ends_with first count k indicator (Below x) = None
ends_with first count k indicator (Obeyed n sn) = ends_at first count k indicator n sn

abbrev pub first_ending : ℕ → ℕ → ℕ → ℕ → List StatusItem → Option ℕ
first_ending first count k indicator [] = None
first_ending first count k indicator (said ∷ rest) = or_else (ends_with first count k indicator said)
    (first_ending first count k indicator rest)

-- the same for the discard that runs, if one does
abbrev pub ending_of : ℕ → ℕ → Option Running → List StatusItem → Option ℕ
ending_of first count None said = None
ending_of first count (Some r) said = first_ending first count r.at r.n said
