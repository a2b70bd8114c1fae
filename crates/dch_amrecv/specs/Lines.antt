-- PDUs that are kept from the expected one on, and the units of those before it (TS 25.322 11.3.3, 11.6.3).
use Rattle.std.specs.Prelude.{ℕ, List, [], ◌∷◌, max, drop, take, Option, Some, None, ◌==◌, if◌then◌else◌}
use Rattle.circular_buffer.specs.Buffer.{Buffer}
use Rattle.dch_am.specs.Bodies.{Body}
use Rattle.dch_sar.specs.Taking.{Waiting, after_unit, dropped, no_units}
use Rattle.dch_amrecv.specs.Reading.{took_one}
use Rattle.dch_amrecv.specs.Places.{front, put}

-- the places from the expected number on and how many there may be, the place up to which indicators of the next PDU
-- end no unit, and the units
pub record Kept : Type 0 where
  pub places : List (Option Body)
  pub capacity : ℕ
  pub trim : Option ℕ
  pub units : Waiting

-- that, and how many octets a PDU has
pub record Reception : Type 0 where
  pub kept : Kept
  pub pdu : ℕ

abbrev pub with_kept : Kept → Reception → Reception
with_kept k r = record { kept = k; pdu = r.pdu }

-- at opening
abbrev pub nothing : ℕ → Kept
nothing capacity = record { places = []; capacity = capacity; trim = None; units = no_units }

-- PDUs are read one after another, of which the first may be trimmed
abbrev pub took_run : Option ℕ → List (Option Body) → Waiting → Waiting
took_run trim [] u = u
took_run trim (None ∷ ps) u = took_run None ps u
took_run trim (Some b ∷ ps) u = took_run None ps (took_one trim b u)

-- the trim is done with where a PDU was read
abbrev pub trim_left : Option ℕ → List (Option Body) → Option ℕ
trim_left trim [] = trim
trim_left trim (p ∷ ps) = None

-- so many PDUs in front are read
abbrev pub read_front : ℕ → Kept → Kept
read_front n k = record {
  places = drop n k.places;
  capacity = k.capacity;
  trim = trim_left k.trim (take n k.places);
  units = took_run k.trim (take n k.places) k.units;
}

-- all in front are read, up to the first gap
abbrev pub run_on : Kept → Kept
run_on k = read_front (front k.places) k

-- a PDU comes to a place
abbrev pub with_body : ℕ → Body → Kept → Kept
with_body i b k = record { places = put i b k.places; capacity = k.capacity; trim = k.trim; units = k.units }

-- of two trims of one PDU the greater one counts
abbrev pub greater : Option ℕ → ℕ → ℕ
greater None n = n
greater (Some m) n = max m n

-- so many places are passed, and the unit in progress is dropped
abbrev pub passed : ℕ → ℕ → Kept → Kept
passed count n k = record {
  places = drop count k.places;
  capacity = k.capacity;
  trim = Some (if count == 0 then greater k.trim n else n);
  units = dropped k.units;
}

-- the first unit that waits is handed up
abbrev pub handed : Kept → Kept
handed k = record { places = k.places; capacity = k.capacity; trim = k.trim; units = after_unit k.units }

-- what is kept, by its parts
abbrev pub line : Buffer (Option Body) → Option ℕ → Waiting → Kept
line w trim u = record { places = w.items; capacity = w.capacity; trim = trim; units = u }
