-- SDUs that wait or are in flight, by their places (TS 25.322 9.4, 11.3.2).
use Rattle.std.specs.Prelude.{◌≡◌, ◌+◌, ◌-◌, ◌%◌, ◌<◌, ◌≤◌, ◌++◌, ◌||◌, ℕ, List, [], ◌∷◌, Bool, false, Option, None, Some, drop, length, nat_le, nat_lt, if◌then◌else◌}
use Rattle.circular_buffer.specs.Buffer.{Buffer}
use Rattle.dch_bits.specs.declared.offer.Offer.{Offer}
use Rattle.dch_bits.specs.declared.offer.Offer.TheVariants.{Accepted, Full, WrongSize}
use Rattle.dch_am.specs.Bodies.{Body, TxQueue, is_empty, room_for}
use Rattle.dch_am.specs.Short.{IsShort}
use Rattle.dch_txbuf.specs.declared.taken.Cut.{Cut}
use Rattle.dch_txbuf.specs.declared.taken.Start.{Start}
use Rattle.dch_txbuf.specs.Cuts.{IsStart, IsThere, body_of, cut_of, has_padding, left_at, next_start}
use Rattle.dch_retx.specs.declared.sent_pdu.Extent.{Extent}
use Rattle.dch_retx.specs.declared.sent_pdu.SentPdu.{SentPdu}
use Rattle.dch_retx.specs.Flights.{sent_once}
use Rattle.dch_txbuf.specs.Chunks.{blocks_for}
use Rattle.dch_txbuf.specs.Sdus.{blocks_in}

-- the SDUs that are held, the oldest first, and how many blocks of 64 octets they may take; where the next PDU begins;
-- whether the length indicator of the SDU before is owed; how many SDUs left before, counted up to 65,536; and the
-- octets of a PDU
pub record TxBuffer : Type 0 where
  pub sdus : List (List ℕ)
  pub blocks : ℕ
  pub start : Start
  pub owed : Bool
  pub freed : ℕ
  pub size : ℕ

-- at the first SDU
abbrev pub no_start : Start
no_start = record { sdu = 0; used = 0 }

-- no SDU
abbrev pub empty_buffer : ℕ → ℕ → TxBuffer
empty_buffer blocks size = record { sdus = []; blocks = blocks; start = no_start; owed = false; freed = 0; size = size }

-- what is unsent from a place on
abbrev pub unsent_at : Start → Bool → List (List ℕ) → TxQueue
unsent_at start owed sdus = record { owed = owed; units = left_at start sdus }

abbrev pub unsent_of : TxBuffer → TxQueue
unsent_of w = unsent_at w.start w.owed w.sdus

-- what an offer is answered: a wrong size comes before want of room
abbrev pub answer_of : List ℕ → TxBuffer → Offer
answer_of sdu w = if is_empty sdu || nat_lt 1500 (length sdu) then WrongSize
    else (if nat_le (blocks_in w.sdus + blocks_for (length sdu)) w.blocks then Accepted else Full)

abbrev pub buffer_after_offer : Offer → List ℕ → TxBuffer → TxBuffer
buffer_after_offer Accepted sdu w = record w { sdus = w.sdus ++ sdu ∷ [] }
buffer_after_offer Full sdu w = w
buffer_after_offer WrongSize sdu w = w

-- what the next PDU takes
abbrev pub cut_next : TxBuffer → Cut
cut_next w = cut_of (room_for (w.size - 2) w.owed) (left_at w.start w.sdus)

abbrev pub buffer_after_build : TxBuffer → TxBuffer
buffer_after_build w = record w { start = next_start w.start (cut_next w); owed = (cut_next w).owed }

-- where its octets stand, and what is kept of it
abbrev pub next_extent : TxBuffer → Extent
next_extent w = record {
  sdu = (w.freed + w.start.sdu) % 65536;
  used = w.start.used;
  pieces = (cut_next w).pieces;
  rest = (cut_next w).rest;
}

abbrev pub next_in_flight : TxBuffer → SentPdu
next_in_flight w = sent_once (next_extent w) w.owed (cut_next w).padded

-- where the octets of a PDU in flight begin, and what it takes from there, with padding behind or without
abbrev pub start_in : TxBuffer → Extent → Start
start_in w x = record { sdu = (x.sdu + (65536 - w.freed)) % 65536; used = x.used }

abbrev pub taken_by : Extent → Bool → Cut
taken_by x padded = record { pieces = x.pieces; rest = x.rest; owed = false; padded = padded }

-- the body of such a PDU
abbrev pub body_in : TxBuffer → SentPdu → Body
body_in w f = body_of f.full (taken_by f.extent f.padded) (left_at (start_in w f.extent) w.sdus)

-- its octets are in the buffer, its length indicators find room with them, and that of padding is told where octets are
-- left
pub record IsHere (w : TxBuffer) (f : SentPdu) : Type 0 where
  pub start : IsStart w.sdus (start_in w f.extent)
  pub there : IsThere (taken_by f.extent f.padded) (left_at (start_in w f.extent) w.sdus)
  pub short : IsShort (w.size - 2) (body_in w f)
  pub padded : f.padded ≡ has_padding (w.size - 2) (body_in w f)

-- how many SDUs end before this PDU, or without one in the PDUs that were built
abbrev pub ended_before : Option SentPdu → TxBuffer → ℕ
ended_before None w = w.start.sdu - (if w.owed then 1 else 0)
ended_before (Some f) w = (start_in w f.extent).sdu - (if f.full then 1 else 0)

-- so many leave
abbrev pub released_by : ℕ → TxBuffer → TxBuffer
released_by n w = record w {
  sdus = drop n w.sdus;
  start = record { sdu = w.start.sdu - n; used = w.start.used };
  freed = (w.freed + n) % 65536;
}

-- how many SDUs have an octet in a PDU that was built
abbrev pub begun_in : TxBuffer → ℕ
begun_in w = w.start.sdu + (if nat_lt 0 w.start.used then 1 else 0)

-- they leave, and the numbers begin anew
abbrev pub restarted_buffer : TxBuffer → TxBuffer
restarted_buffer w = record w { sdus = drop (begun_in w) w.sdus; start = no_start; owed = false; freed = 0 }

-- what is kept fits together
pub record IsBuffer (sdus : Buffer (List ℕ)) (start : Start) (freed size : ℕ) : Type 0 where
  pub start_is : IsStart sdus.items start
  pub from : 6 ≤ size
  pub most : size ≤ 126
  pub small : freed < 65536
