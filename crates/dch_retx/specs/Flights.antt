-- The PDUs of a sender that are in flight (TS 25.322 9.4, 11.5.3): those from the lowest number that is not
-- acknowledged on.
use Rattle.std.specs.Prelude.{◌≡◌, ◌+◌, ◌-◌, ◌≤◌, ◌<◌, ◌||◌, ℕ, zero, suc, List, [], ◌∷◌, Bool, true, false, length, nat_lt, nat_le, slice_index, slice_index_or, slice_set, Option, Some, None, if◌then◌else◌}
use Rattle.circular_buffer.specs.Buffer.{Buffer}
use Rattle.dch_retx.specs.RequestSet.{RequestSet, is_in}
use Rattle.dch_retx.specs.declared.sent_pdu.Extent.{Extent}
use Rattle.dch_retx.specs.declared.sent_pdu.SentPdu.{SentPdu}

-- no octets
abbrev pub no_extent : Extent
no_extent = record { sdu = 0; used = 0; pieces = 0; rest = 0 }

-- no PDU
abbrev pub blank : SentPdu
blank = record {
  extent = no_extent;
  full = false;
  padded = false;
  builds = 0;
  acked = false;
  requested = false;
  named = false;
}

-- a PDU that was just built
abbrev pub sent_once : Extent → Bool → Bool → SentPdu
sent_once extent full padded = record {
  extent = extent;
  full = full;
  padded = padded;
  builds = 1;
  acked = false;
  requested = false;
  named = false;
}

-- how many SDUs have their length indicators in it
abbrev pub ends_in : SentPdu → ℕ
ends_in f = f.extent.pieces + (if f.full then 1 else 0)

-- an SDU goes on behind its last octet
abbrev pub continues_in : SentPdu → Bool
continues_in f = nat_lt 0 f.extent.rest

-- the PDU at a place
abbrev pub at : List SentPdu → ℕ → SentPdu
at in_flight i = slice_index_or in_flight i blank

-- a status names it missing. Unless it is acknowledged, it is requested where it stands high enough, and marked where
-- it stands under the LSN
abbrev pub named_as : Bool → Bool → SentPdu → SentPdu
named_as high under f = if f.acked then f else record f { named = f.named || under; requested = f.requested || high }

-- the same by its place
abbrev pub named_from : ℕ → ℕ → ℕ → SentPdu → SentPdu
named_from from to i f = named_as (nat_le from i) (nat_lt i to) f

-- it is acknowledged, unless it is named missing
abbrev pub acknowledged : SentPdu → SentPdu
acknowledged f = if f.named then record f { named = false } else record f { acked = true; requested = false }

-- it is not requested
abbrev pub request_cleared : SentPdu → SentPdu
request_cleared f = record f { requested = false }

-- it is built once more. More than 255 times are not counted
abbrev pub built : SentPdu → SentPdu
built f = record f { requested = false; builds = if nat_lt f.builds 255 then f.builds + 1 else f.builds }

-- the PDUs before a place are changed
abbrev pub changed_below : (SentPdu → SentPdu) → ℕ → List SentPdu → List SentPdu
changed_below change zero in_flight = in_flight
changed_below change (suc to) [] = []
changed_below change (suc to) (f ∷ in_flight) = change f ∷ changed_below change to in_flight

-- the first PDU that is requested stands there, or none is and this is the end
pub record IsFirstRequested (in_flight : List SentPdu) (first : ℕ) : Type 0 where
  pub before : (i : ℕ) → i < first → (at in_flight i).requested ≡ false
  pub here : first < length in_flight → (at in_flight first).requested ≡ true
  pub within : first ≤ length in_flight

-- where that is
abbrev pub first_requested : List SentPdu → ℕ
first_requested [] = 0
first_requested (f ∷ in_flight) = if f.requested then 0 else suc (first_requested in_flight)

-- how many are requested
abbrev pub requested_in : List SentPdu → ℕ
requested_in [] = 0
requested_in (f ∷ in_flight) = if f.requested then suc (requested_in in_flight) else requested_in in_flight

-- how many PDUs in front are acknowledged
abbrev pub front_acked : List SentPdu → ℕ
front_acked [] = 0
front_acked (f ∷ in_flight) = if f.acked then suc (front_acked in_flight) else 0

-- the places of those that are requested are in the set, and no others
abbrev pub AreRequests : RequestSet → List SentPdu → Type 0
AreRequests set in_flight = (i : ℕ) → i < 4096 → is_in set i ≡ (at in_flight i).requested

-- an acknowledged PDU is neither requested nor marked
abbrev pub IsSettled : SentPdu → Type 0
IsSettled f = f.acked ≡ true → (f.requested ≡ false) × (f.named ≡ false)

-- the number of an open PDU tells how many acknowledged ones follow it, up to the next open one
pub record IsLinked (f : SentPdu) (skip : ℕ) (behind : List SentPdu) : Type 0 where
  pub skip_is : f.acked ≡ false → skip ≡ front_acked behind
  pub settled : IsSettled f

abbrev pub AreLinked : List SentPdu → List ℕ → Type 0
AreLinked [] [] = Unit {0}
AreLinked [] (skip ∷ skips) = ⊥
AreLinked (f ∷ in_flight) [] = ⊥
AreLinked (f ∷ in_flight) (skip ∷ skips) = IsLinked f skip in_flight × AreLinked in_flight skips

-- an open PDU, and the place of the next one
pub record IsNext (in_flight : List SentPdu) (skips : List ℕ) (i o : ℕ) : Type 0 where
  pub next : o + 1 + slice_index skips o ≡ i
  pub is_open : (at in_flight o).acked ≡ false

-- the open one before a place; where there is none, all before it are acknowledged
abbrev pub IsBefore : List SentPdu → List ℕ → ℕ → Option ℕ → Type 0
IsBefore in_flight skips i None = i ≤ front_acked in_flight
IsBefore in_flight skips i (Some o) = IsNext in_flight skips i o

-- a walk over the open ones has come to a place
pub record IsWalk (in_flight : List SentPdu) (skips : List ℕ) (i : ℕ) (before : Option ℕ) : Type 0 where
  pub linked : AreLinked in_flight skips
  pub within : i ≤ length in_flight
  pub here : i < length in_flight → (at in_flight i).acked ≡ false
  pub before_is : IsBefore in_flight skips i before

-- one step of it: the one at the place is acknowledged or left open, and the next open one stands at another place
abbrev pub before_next : Bool → Option ℕ → ℕ → Option ℕ
before_next true before i = before
before_next false before i = Some i

abbrev pub joined : Bool → Option ℕ → ℕ → List ℕ → List ℕ
joined false before next skips = skips
joined true None next skips = skips
joined true (Some o) next skips = slice_set skips o (next - o - 1)

-- the ring, the numbers of its open PDUs, the places of those that are requested and how many they are
pub record IsFlight (flight : Buffer SentPdu) (skips : Buffer ℕ) (set : RequestSet) (count : ℕ) : Type 0 where
  pub count_is : count ≡ requested_in flight.items
  pub requests : AreRequests set flight.items
  pub few : length flight.items ≤ flight.capacity
  pub small : flight.capacity ≤ 2048
  pub linked : AreLinked flight.items skips.items
  pub room : skips.capacity ≡ flight.capacity
