-- An entity of the acknowledged mode (TS 25.322 4.2.1.3), which sends and receives: what it writes when it may write a
-- PDU, how much it offers to send, and what each event makes of it.
use Rattle.std.specs.Prelude.{◌≡◌, ◌+◌, ◌-◌, ◌*◌, ◌<◌, ◌≤◌, ℕ, List, [], ◌∷◌, length, Bool, true, false, nat_lt, Option, Some, None, if◌then◌else◌}
use Rattle.dch_rlcpdu.specs.Fields.{Field}
use Rattle.dch_rlcpdu.specs.declared.am.AmView.{AmView}
use Rattle.dch_rlcpdu.specs.declared.am.AmView.TheVariants.{Payload, Status, Reset, ResetAck}
use Rattle.dch_am.specs.Acknowledging.{after_fields}
use Rattle.dch_am.specs.Bodies.{Body}
use Rattle.dch_am.specs.Building.{after_build, available, body_of_choice, choice, gives}
use Rattle.dch_am.specs.Contents.{body_in}
use Rattle.dch_am.specs.Discards.{after_moving, mrw_due, tick_sender}
use Rattle.dch_am.specs.Moves.{after_control}
use Rattle.dch_am.specs.Receiver.{Receiver, after_pdu, opened_receiver, taken}
use Rattle.dch_am.specs.Rules.{Rules}
use Rattle.dch_am.specs.Sender.{Sender, after_offer, offered, opened_sender}
use Rattle.dch_am.specs.Short.{IsShort}
use Rattle.dch_am.specs.Telling.{after_telling, is_due, tells_now, tick_receiver}
use Rattle.dch_am.specs.Texts.{IsMrw, IsReport, next_pdu}

-- an entity of the acknowledged mode: its two sides, and how many SDUs of those that its receiver has read were
-- delivered
pub record Entity : Type 0 where
  pub sender : Sender
  pub receiver : Receiver
  pub handed : ℕ

-- at opening
abbrev pub opened_entity : Rules → Entity
opened_entity rules = record { sender = opened_sender; receiver = opened_receiver rules; handed = 0 }

-- with another sender, and with other sides
abbrev pub with_sender : Entity → Sender → Entity
with_sender e s = record { sender = s; receiver = e.receiver; handed = e.handed }

abbrev pub with_sides : Entity → Sender → Receiver → Entity
with_sides e s r = record { sender = s; receiver = r; handed = e.handed }

-- what it does when it may write a PDU: it writes a status, an MRW, a data PDU, or nothing
pub data Turn : Type 0 where
  Tells : Turn
  Moves : Turn
  Sends : Turn
  Rests : Turn

-- a status goes before an MRW, and that before a data PDU
abbrev pub turn : Rules → Sender → Receiver → Turn
turn rules s r = if is_due r then Tells else (if mrw_due s.discard then Moves
    else (if gives rules s then Sends else Rests))

-- something is written
abbrev pub writes : Turn → Bool
writes Tells = true
writes Moves = true
writes Sends = true
writes Rests = false

-- these octets are what is written, in a PDU of so many
abbrev pub IsWritten : Turn → Rules → ℕ → List ℕ → Sender → Receiver → Type 0
IsWritten Tells rules size out s r = IsReport out (tells_now (8 * size) r)
IsWritten Moves rules size out s r = IsMrw out s.discard
IsWritten Sends rules size out s r = (out ≡ next_pdu rules (size - 2) s)
    × IsShort (size - 2) (body_of_choice (choice rules s) (size - 2) s)
IsWritten Rests rules size out s r = Unit {0}

-- the sender and the receiver after it is written
abbrev pub sender_after : Turn → Rules → ℕ → Sender → Sender
sender_after Tells rules size s = s
sender_after Moves rules size s = after_moving rules s s.discard
sender_after Sends rules size s = after_build rules (size - 2) s
sender_after Rests rules size s = s

abbrev pub receiver_after : Turn → Rules → Receiver → Receiver
receiver_after Tells rules r = after_telling rules r
receiver_after Moves rules r = r
receiver_after Sends rules r = r
receiver_after Rests rules r = r

-- one or none
abbrev pub one_if : Bool → ℕ
one_if true = 1
one_if false = 0

-- how many PDUs of so many octets it offers to send: a due status, a due MRW, and the data PDUs that could follow one
-- another
abbrev pub offers_to_send : Rules → ℕ → Entity → ℕ
offers_to_send rules size e = one_if (is_due e.receiver) + one_if (mrw_due e.sender.discard) +
    available rules (size - 2) e.sender

-- a PDU that comes, as it is read. A status may ride on a data PDU
pub data Pdu : Type 0 where
  DataPdu : (sn : ℕ) → (poll : Bool) → (body : Body) → (rides : Option (List Field)) → Pdu
  StatusPdu : (fields : List Field) → Pdu
  ResetPdu : (rsn : Bool) → Pdu
  ResetAckPdu : (rsn : Bool) → Pdu

abbrev pub pdu_of : AmView → Pdu
pdu_of (Payload sn poll c piggyback) = DataPdu sn poll (body_in c) piggyback
pdu_of (Status fields) = StatusPdu fields
pdu_of (Reset rsn hfni) = ResetPdu rsn
pdu_of (ResetAck rsn hfni) = ResetAckPdu rsn

-- a data PDU has a number of 12 bits, and indicators and octets for a PDU of so many octets
abbrev pub IsSmall : ℕ → AmView → Type 0
IsSmall size (Payload sn poll c piggyback) = (sn < 4096) × (length c.indicators + length c.octets + 2 ≤ size)
IsSmall size (Status fields) = Unit {0}
IsSmall size (Reset rsn hfni) = Unit {0}
IsSmall size (ResetAck rsn hfni) = Unit {0}

-- a status that rides on a data PDU is heard by the sender alone, whatever the data PDU is answered
abbrev pub after_riding : Rules → Option (List Field) → Sender → Sender
after_riding rules None s = s
after_riding rules (Some fields) s = after_fields rules s fields

-- the sender and the receiver after a PDU came. A RESET and its answer change neither
abbrev pub sender_by : Rules → Pdu → Sender → Sender
sender_by rules (DataPdu sn poll body rides) s = after_riding rules rides s
sender_by rules (StatusPdu fields) s = after_fields rules s fields
sender_by rules (ResetPdu rsn) s = s
sender_by rules (ResetAckPdu rsn) s = s

abbrev pub receiver_by : Rules → Pdu → Receiver → Receiver
receiver_by rules (DataPdu sn poll body rides) r = after_pdu rules (taken rules r sn) r sn poll body
receiver_by rules (StatusPdu fields) r = after_control rules r fields
receiver_by rules (ResetPdu rsn) r = r
receiver_by rules (ResetAckPdu rsn) r = r

-- what happens at an entity
pub data Event : Type 0 where
  Offer : (unit : List ℕ) → Event
  Tick : Event
  Build : Event
  Come : (pdu : Pdu) → Event
  HandUp : Event  -- the next unit, where one waits

-- an entity that writes PDUs of so many octets, after an event
abbrev pub step : Rules → ℕ → Entity → Event → Entity
step rules size e (Offer unit) = with_sender e (after_offer (offered rules e.sender unit) e.sender unit)
step rules size e Tick = with_sides e (tick_sender rules e.sender) (tick_receiver rules e.receiver)
step rules size e Build = with_sides e (sender_after (turn rules e.sender e.receiver) rules size e.sender)
    (receiver_after (turn rules e.sender e.receiver) rules e.receiver)
step rules size e (Come pdu) = with_sides e (sender_by rules pdu e.sender) (receiver_by rules pdu e.receiver)
step rules size e HandUp = record {
  sender = e.sender;
  receiver = e.receiver;
  handed = if nat_lt e.handed (length e.receiver.reading.units) then e.handed + 1 else e.handed;
}

-- and after a list of events
abbrev pub steps : Rules → ℕ → Entity → List Event → Entity
steps rules size e [] = e
steps rules size e (event ∷ events) = steps rules size (step rules size e event) events

-- the entity after all events since opening
abbrev pub entity_after : Rules → ℕ → List Event → Entity
entity_after rules size events = steps rules size (opened_entity rules) events
