-- How many bytes of report can still come of what a receiver of the acknowledged mode holds: of the unit in progress,
-- and of the PDUs that arrived behind a missing one (TS 25.322 11.3.3). A line on a unit has up to 13 bytes and two for
-- each octet; one on an overlong unit has up to 17.
use Rattle.std.specs.Prelude.{◌≡◌, ◌≤◌, ◌++◌, ◌+◌, ◌*◌, ℕ, List, [], ◌∷◌, Bool, true, false, length, min, nat_lt, if◌then◌else◌}
use Rattle.dch_types.specs.Sums.{total}
use Rattle.dch_am.specs.Bodies.{Body}
use Rattle.dch_am.specs.Receiver.{Receiver, body_of, vr_r}

-- of a unit that ended, and of several. For one without octets a dot would stand
abbrev pub unit_bytes : List ℕ → ℕ
unit_bytes [] = 14
unit_bytes (x ∷ xs) = if nat_lt 1500 (length (x ∷ xs)) then 17 else 13 + 2 * length (x ∷ xs)

abbrev pub units_bytes : List (List ℕ) → ℕ
units_bytes [] = 0
units_bytes (unit ∷ units) = unit_bytes unit + units_bytes units

-- of the octets of a unit in progress. Its length indicator brings six bytes more
abbrev pub part_bytes : List ℕ → ℕ
part_bytes [] = 0
part_bytes (x ∷ xs) = 7 + 2 * min 1501 (length (x ∷ xs))

-- of the indicator that stands first, of pieces with their length indicators, and of a PDU. An octet brings at most
-- nine bytes, since it may be the first of a unit
abbrev pub full_bytes : Bool → ℕ
full_bytes true = 6
full_bytes false = 0

abbrev pub pieces_bytes : List (List ℕ) → ℕ
pieces_bytes [] = 0
pieces_bytes (p ∷ ps) = 9 * length p + 6 + pieces_bytes ps

abbrev pub body_bytes : Body → ℕ
body_bytes b = full_bytes b.full + pieces_bytes b.pieces + 9 * length b.rest

-- of so many PDUs from a number on; nothing of one that has not arrived
abbrev pub run_bytes : List (ℕ × Body) → ℕ → ℕ → ℕ
run_bytes arrived from n = total (λ i. body_bytes (body_of arrived (from + i))) n

-- how many bytes of report the SDU in progress and the kept PDUs of a receiver with this window may still take
abbrev pub receiver_bytes : ℕ → Receiver → ℕ
receiver_bytes window r = part_bytes r.reading.part + run_bytes r.arrived (vr_r r) window

-- a receiver after an event: units that ended follow, and what is told of them and what can still come is no more than
-- before and so many bytes
pub record Takes (window : ℕ) (old new : Receiver) (bytes : ℕ) : Type 0 where
  pub more : List (List ℕ)
  pub units : new.reading.units ≡ old.reading.units ++ more
  pub paid : units_bytes more + receiver_bytes window new ≤ receiver_bytes window old + bytes
