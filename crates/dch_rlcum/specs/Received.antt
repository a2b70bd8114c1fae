-- A receiver and what came before: the PDUs that came, and how many of the units that ended in them were handed up (TS
-- 25.322 11.2.3).
use Rattle.std.specs.Prelude.{◌≡◌, ◌+◌, ◌++◌, ◌≤◌, ℕ, List, [], ◌∷◌, Option, Some, None, drop, length, if◌then◌else◌}
use Rattle.dch_rlcpdu.specs.declared.handed.Handed.{Handed}
use Rattle.dch_rlcpdu.specs.declared.um.UmView.{UmView}
use Rattle.dch_rlcum.specs.Handing.{Sent, all_handed, view_of}
use Rattle.dch_rlcum.specs.Receiving.{Receiving, after_pdu, opened}

-- a receiver after more PDUs, where all units that ended were handed up
abbrev pub received_from : Receiving → List UmView → Receiving
received_from r [] = r
received_from r (p ∷ ps) = received_from (all_handed (after_pdu p r)) ps

-- the units that end in them
abbrev pub units_from : Receiving → List UmView → List (List ℕ)
units_from r [] = []
units_from r (p ∷ ps) = (after_pdu p r).waiting ++ units_from (all_handed (after_pdu p r)) ps

-- the same from opening on
abbrev pub received : List UmView → Receiving
received pdus = received_from opened pdus

abbrev pub units_in : List UmView → List (List ℕ)
units_in pdus = units_from opened pdus

-- these PDUs came, and of the units that ended in them so many were handed up
pub record IsReceiverOf (pdus : List UmView) (handed : ℕ) (r : Receiving) : Type 0 where
  pub few : handed ≤ length (units_in pdus)
  pub vr_us : r.vr_us ≡ (received pdus).vr_us
  pub known : r.known ≡ (received pdus).known
  pub part : r.part ≡ (received pdus).part
  pub waiting : r.waiting ≡ drop handed (units_in pdus)

-- how many were handed up after an answer
abbrev pub handed_after : Option Handed → ℕ → ℕ
handed_after None handed = handed
handed_after (Some answer) handed = handed + 1

-- the PDUs that arrived, as they are read, where the first that was sent is PDU k
abbrev pub arrived_from : ℕ → List ℕ → ℕ → List Sent → List UmView
arrived_from pdu row k [] = []
arrived_from pdu row k (x ∷ xs) = if x.arrived then view_of pdu row k x.pdu ∷ arrived_from pdu row (k + 1) xs
    else arrived_from pdu row (k + 1) xs
