-- A receiver of the acknowledged mode, named by all that happened at it since opening (TS 25.322 9.7, 11.3 to 11.6).
use Rattle.std.specs.Prelude.{◌+◌, ℕ, List, [], ◌∷◌, Bool, length, nat_lt, if◌then◌else◌}
use Rattle.dch_rlcpdu.specs.Fields.{Field}
use Rattle.dch_am.specs.Bodies.{Body}
use Rattle.dch_am.specs.Moves.{after_control}
use Rattle.dch_am.specs.Receiver.{Receiver, after_pdu, opened_receiver, taken}
use Rattle.dch_am.specs.Rules.{Rules}
use Rattle.dch_am.specs.Telling.{after_telling, tick_receiver}

-- what happens at a receiver
pub data ReceiverEvent : Type 0 where
  Arrive : (sn : ℕ) → (poll : Bool) → (body : Body) → ReceiverEvent  -- a data PDU comes
  Obey : (fields : List Field) → ReceiverEvent  -- a status comes, of which a receiver looks at the MRW
  Tell : ReceiverEvent  -- the status or the MRW_ACK that is due is written
  HandUp : ReceiverEvent  -- the next unit, where one waits
  Tick : ReceiverEvent
  Restart : ReceiverEvent

-- a receiver, and how many of its units were handed up
pub record ReceivingSide : Type 0 where
  pub receiver : Receiver
  pub handed : ℕ

-- at opening
abbrev pub opened_side : Rules → ReceivingSide
opened_side rules = record { receiver = opened_receiver rules; handed = 0 }

-- with another receiver
abbrev pub with_receiver : ReceivingSide → Receiver → ReceivingSide
with_receiver side r = record { receiver = r; handed = side.handed }

-- a receiver after an event, with how many of its SDUs were delivered
abbrev pub receiver_step : Rules → ReceivingSide → ReceiverEvent → ReceivingSide
receiver_step rules side (Arrive sn poll body) =
    with_receiver side (after_pdu rules (taken rules side.receiver sn) side.receiver sn poll body)
receiver_step rules side (Obey fields) = with_receiver side (after_control rules side.receiver fields)
receiver_step rules side Tell = with_receiver side (after_telling rules side.receiver)
receiver_step rules side HandUp = record {
  receiver = side.receiver;
  handed = if nat_lt side.handed (length side.receiver.reading.units) then side.handed + 1 else side.handed;
}
receiver_step rules side Tick = with_receiver side (tick_receiver rules side.receiver)
receiver_step rules side Restart = opened_side rules

-- and after a list of events
abbrev pub receiver_steps : Rules → ReceivingSide → List ReceiverEvent → ReceivingSide
receiver_steps rules side [] = side
receiver_steps rules side (event ∷ events) = receiver_steps rules (receiver_step rules side event) events

-- the receiver after all events since opening, with how many of its SDUs were delivered
abbrev pub receiver_after : Rules → List ReceiverEvent → ReceivingSide
receiver_after rules events = receiver_steps rules (opened_side rules) events
