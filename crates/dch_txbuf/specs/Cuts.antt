-- What a PDU takes of SDUs (TS 25.322 9.2.2.8), by numbers.
use Rattle.std.specs.Prelude.{◌+◌, ◌-◌, ◌*◌, ◌≤◌, ◌++◌, ◌==◌, ℕ, List, [], ◌∷◌, Bool, false, Option, None, Some, drop, length, nat_lt, slice_index_or, slice_set, take, if◌then◌else◌}
use Rattle.dch_sar.specs.Pdus.{padding}
use Rattle.dch_am.specs.Bodies.{Body, TxQueue, carried, ends_at, joined, leading}
use Rattle.dch_txbuf.specs.declared.taken.Cut.{Cut}
use Rattle.dch_txbuf.specs.declared.taken.Start.{Start}

-- SDUs without so many octets of the first
abbrev pub trimmed : ℕ → List (List ℕ) → List (List ℕ)
trimmed n [] = []
trimmed n (u ∷ us) = drop n u ∷ us

abbrev pub first_of : List (List ℕ) → List ℕ
first_of [] = []
first_of (u ∷ us) = u

-- what is left of the SDUs from a start on
abbrev pub left_at : Start → List (List ℕ) → List (List ℕ)
left_at start sdus = trimmed start.used (drop start.sdu sdus)

-- the start stands at one of them or behind all
pub record IsStart (sdus : List (List ℕ)) (start : Start) : Type 0 where
  pub sdu : start.sdu ≤ length sdus
  pub used : start.used ≤ length (slice_index_or sdus start.sdu [])

-- so many more end in a PDU
abbrev pub with_pieces : ℕ → Cut → Cut
with_pieces n c = record { pieces = n + c.pieces; rest = c.rest; owed = c.owed; padded = c.padded }

-- what a PDU takes of these SDUs into so many octets, each length indicator an octet
abbrev pub cut_of : ℕ → List (List ℕ) → Cut
cut_of free [] = record { pieces = 0; rest = 0; owed = false; padded = nat_lt 0 free }
cut_of free (u ∷ us) = if nat_lt (length u) free then with_pieces 1 (cut_of (free - length u - 1) us)
    else record { pieces = 0; rest = free; owed = length u == free; padded = false }

-- there are so many of them
pub record IsThere (c : Cut) (us : List (List ℕ)) : Type 0 where
  pub pieces : c.pieces ≤ length us
  pub rest : c.rest ≤ length (first_of (drop c.pieces us))

-- the PDU that takes this of SDUs
abbrev pub body_of : Bool → Cut → List (List ℕ) → Body
body_of full c us = record { full = full; pieces = take c.pieces us; rest = take c.rest (first_of (drop c.pieces us)) }

-- its octets
abbrev pub octets_of : Cut → List (List ℕ) → List ℕ
octets_of c us = joined (take c.pieces us) ++ take c.rest (first_of (drop c.pieces us))

-- what is unsent behind it
abbrev pub after_cut : Cut → List (List ℕ) → TxQueue
after_cut c us = record {
  owed = c.owed;
  units = if c.owed then drop (c.pieces + 1) us
      else trimmed c.rest (drop c.pieces us);
}

-- where the next PDU begins
abbrev pub next_start : Start → Cut → Start
next_start start c =
    if c.owed
    then record { sdu = start.sdu + c.pieces + 1; used = 0 }
    else record { sdu = start.sdu + c.pieces; used = if nat_lt 0 c.pieces then c.rest else start.used + c.rest }

-- its numbers have 16 bits
pub record IsSmall (start : Start) : Type 0 where
  pub sdu : start.sdu ≤ 65535
  pub used : start.used ≤ 65535

-- octets are left in so many behind its length indicators and octets
abbrev pub has_padding : ℕ → Body → Bool
has_padding d b = nat_lt (length (leading b) + length (carried b) + length b.pieces) d

-- a length indicator that stands first, or none
abbrev pub led_by : Option ℕ → List ℕ
led_by None = []
led_by (Some m) = m ∷ []

-- octets are left behind them, of so many behind the header
abbrev pub is_padded : ℕ → Option ℕ → Cut → List (List ℕ) → Bool
is_padded room lead c us = nat_lt (length (led_by lead) + length (octets_of c us) + c.pieces) room

-- the length indicators of the PDU, of so many octets behind its header: the one that stands first, those of ends, and
-- that of padding
abbrev pub indicators_with : Option ℕ → ℕ → Cut → List (List ℕ) → List ℕ
indicators_with lead room c us = led_by lead ++ (ends_at 0 (take c.pieces us)
    ++ padding room (length (led_by lead) + length (octets_of c us) + c.pieces))

-- length indicators where one is written at a place: seven bits, and the bit that tells whether one more follows
abbrev pub with_indicator : ℕ → ℕ → List ℕ → List ℕ
with_indicator m at out = slice_set out at (2 * m + (if nat_lt (at + 1) (length out) then 1 else 0))

-- the same of the one that stands first, or none
abbrev pub with_lead : Option ℕ → List ℕ → List ℕ
with_lead None out = out
with_lead (Some m) out = with_indicator m 0 out
