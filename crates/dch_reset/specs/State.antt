-- An end of a bearer in acknowledged mode that can be reset (TS 25.322 9.7.7, 11.4): what it keeps, what it writes when
-- it may write a PDU, and what each event makes of it.
use Rattle.std.specs.Prelude.{◌≡◌, ◌+◌, ℕ, List, not, ◌==◌, Option, Some, None, Bool, true, false, if◌then◌else◌}
use Rattle.dch_am.specs.Entities.{Entity, Event as EntityEvent, Build as Builds, Come as Comes, HandUp as HandsUp, Offer as Offers, Tick as Ticks, IsWritten as IsEntityWritten, Pdu, DataPdu, StatusPdu, ResetPdu, ResetAckPdu, Turn as EntityTurn, opened_entity, step as entity_step, turn as entity_turn, writes as entity_writes}
use Rattle.dch_am.specs.Restart.{restarted_entity}
use Rattle.dch_am.specs.Rules.{Rules}
use Rattle.dch_rlcpdu.specs.AmControl.{reset_text}
use Rattle.dch_reset.specs.Ends.{Pending, hfni_of, is_asked, is_heard, rsn_of, ticked}

-- an end that can be reset: its entity since the last restart, a reset that is pending, the RSN of the next one and of
-- the last RESET that came, whether it owes a RESET ACK, and how often it restarted
pub record State : Type 0 where
  pub entity : Entity  -- since the last restart
  pub pending : Option Pending
  pub next_rsn : Bool  -- of the next procedure
  pub heard : Option Bool  -- the RSN of the last RESET that came
  pub owes : Bool  -- a RESET ACK is owed
  pub restarts : ℕ  -- since opening

-- at opening
abbrev pub opened_state : Rules → State
opened_state rules = record {
  entity = opened_entity rules;
  pending = None;
  next_rsn = false;
  heard = None;
  owes = false;
  restarts = 0;
}

-- what it does when it may write a PDU: it writes a RESET ACK or a RESET, it has its entity's turn, or it waits for an
-- answer
pub data Turn : Type 0 where
  Answers : Turn
  Asks : Turn
  Works : (turn : EntityTurn) → Turn
  Waits : Turn

-- a RESET ACK goes first. An end that is pending writes nothing else but its RESET
abbrev pub turn_by : Rules → Entity → Bool → Option Pending → Turn
turn_by rules e true pending = Answers
turn_by rules e false (Some p) = if p.rst_timer == 0 then Asks else Waits
turn_by rules e false None = Works (entity_turn rules e.sender e.receiver)

abbrev pub turn : Rules → State → Turn
turn rules e = turn_by rules e.entity e.owes e.pending

-- something is written
abbrev pub writes : Turn → Bool
writes Answers = true
writes Asks = true
writes (Works turn) = entity_writes turn
writes Waits = false

-- an end is pending, and these octets are its RESET, in a PDU of so many
abbrev pub IsReset : Option Pending → ℕ → ℕ → List ℕ → Type 0
IsReset None restarts size out = ⊥
IsReset (Some p) restarts size out = out ≡ reset_text 1 p.rsn (hfni_of restarts) size

-- these octets are what is written, in a PDU of so many. HFNI is the number of restarts in 20 bits
abbrev pub IsWritten : Turn → Rules → ℕ → List ℕ → State → Type 0
IsWritten Answers rules size out e = out ≡ reset_text 2 (rsn_of e.heard) (hfni_of e.restarts) size
IsWritten Asks rules size out e = IsReset e.pending e.restarts size out
IsWritten (Works turn) rules size out e = IsEntityWritten turn rules size out e.entity.sender e.entity.receiver
IsWritten Waits rules size out e = Unit {0}

-- a RESET that was written is due again after 30 ticks
abbrev pub asked_again : Option Pending → Option Pending
asked_again None = None
asked_again (Some p) = Some (record p { rst_timer = 30 })

-- an end after an event of its entity
abbrev pub stepped : Rules → ℕ → State → EntityEvent → State
stepped rules size e event = record e { entity = entity_step rules size e.entity event }

-- and after its turn
abbrev pub after_turn : Turn → Rules → ℕ → State → State
after_turn Answers rules size e = record e { owes = false }
after_turn Asks rules size e = record e { pending = asked_again e.pending }
after_turn (Works turn) rules size e = stepped rules size e Builds
after_turn Waits rules size e = e

-- an end that isn't pending becomes so, with the other RSN each time
abbrev pub reset_by : State → Option Pending → State
reset_by e None = record e { pending = Some (record { rsn = e.next_rsn; rst_timer = 0 }); next_rsn = not e.next_rsn }
reset_by e (Some p) = e

-- both sides begin anew
abbrev pub restarted : Rules → State → State
restarted rules e = record e { entity = restarted_entity rules e.entity; restarts = e.restarts + 1 }

-- a data PDU or a status comes, which an end ignores while it is pending
abbrev pub taken_by : Rules → ℕ → State → Option Pending → Pdu → State
taken_by rules size e (Some p) pdu = e
taken_by rules size e None pdu = stepped rules size e (Comes pdu)

-- a RESET restarts the end unless its RSN is that of the last one, and each is answered. A RESET ACK restarts an end
-- that is pending with its RSN, which then isn't
abbrev pub came : Rules → ℕ → State → Pdu → State
came rules size e (DataPdu sn poll body rides) = taken_by rules size e e.pending (DataPdu sn poll body rides)
came rules size e (StatusPdu fields) = taken_by rules size e e.pending (StatusPdu fields)
came rules size e (ResetPdu rsn) = if is_heard e.heard rsn then record e { owes = true }
    else record (restarted rules e) { heard = Some rsn; owes = true }
came rules size e (ResetAckPdu rsn) = if is_asked e.pending rsn then record (restarted rules e) { pending = None }
    else e

-- what happens at an end
pub data Event : Type 0 where
  Offer : (unit : List ℕ) → Event
  Tick : Event
  Reset : Event
  Build : Event
  Come : (pdu : Pdu) → Event
  HandUp : Event  -- the next unit, where one waits

-- an end that writes PDUs of so many octets, after an event
abbrev pub step : Rules → ℕ → State → Event → State
step rules size e (Offer unit) = stepped rules size e (Offers unit)
step rules size e Tick = record (stepped rules size e Ticks) { pending = ticked e.pending }
step rules size e Reset = reset_by e e.pending
step rules size e Build = after_turn (turn rules e) rules size e
step rules size e (Come pdu) = came rules size e pdu
step rules size e HandUp = stepped rules size e HandsUp
