-- How units come out of PDUs that are read one after another (TS 25.322 11.2.3, 11.3.3): of a unit no more than 1,501
-- octets are kept, which tell that it is overlong.
use Rattle.std.specs.Prelude.{◌+◌, ◌++◌, ℕ, List, [], ◌∷◌, Bool, true, false, Option, Some, None, length, take, drop, nat_lt, if◌then◌else◌}
use Rattle.dch_rlcpdu.specs.declared.handed.Handed.{Handed}
use Rattle.dch_rlcpdu.specs.declared.handed.Handed.TheVariants.{Whole, Overlong}
use Rattle.dch_rlcpdu.specs.Parts.{total_of}

-- the units that ended and wait, and the octets of the one in progress
pub record Waiting : Type 0 where
  pub waiting : List (List ℕ)
  pub part : List ℕ

-- at opening
abbrev pub no_units : Waiting
no_units = record { waiting = []; part = [] }

-- octets of the unit in progress
abbrev pub added : List ℕ → Waiting → Waiting
added octets u = record { waiting = u.waiting; part = take 1501 (u.part ++ octets) }

-- an end of a unit: it waits if it has octets
abbrev pub ended_units : List (List ℕ) → List ℕ → List (List ℕ)
ended_units units [] = units
ended_units units (x ∷ xs) = units ++ (x ∷ xs) ∷ []

abbrev pub ended : Waiting → Waiting
ended u = record { waiting = ended_units u.waiting u.part; part = [] }

-- the unit in progress is dropped
abbrev pub dropped : Waiting → Waiting
dropped u = record { waiting = u.waiting; part = [] }

-- the parts of a PDU: pieces, each of which ends a unit, and the rest
abbrev pub took_parts : List (List ℕ) → Waiting → Waiting
took_parts [] u = u
took_parts (p ∷ []) u = added p u
took_parts (p ∷ q ∷ ps) u = took_parts (q ∷ ps) (ended (added p u))

-- the indicator 0 ends the unit in progress
abbrev pub took_full : Bool → Waiting → Waiting
took_full true u = ended u
took_full false u = u

-- what is handed up
abbrev pub handed_of : List (List ℕ) → Option Handed
handed_of [] = None
handed_of (u ∷ us) = Some (if nat_lt 1500 (length u) then Overlong else Whole (length u))

abbrev pub written : List (List ℕ) → List ℕ → List ℕ
written [] out = out
written (u ∷ us) out = if nat_lt 1500 (length u) then out else u ++ drop (length u) out

abbrev pub after_unit : Waiting → Waiting
after_unit u = record { waiting = drop 1 u.waiting; part = u.part }

-- how many octets are held
abbrev pub held : Waiting → ℕ
held u = total_of u.waiting + length u.part
