-- What a sender of the acknowledged mode has sent and has still to send (TS 25.322 9.4), and when it stands for a
-- sender over numbers without wrap.
use Rattle.std.specs.Prelude.{◌≡◌, ◌+◌, ◌-◌, ◌<◌, ◌≤◌, ℕ, List, [], ◌∷◌, Bool, length, min, nat_lt, Option, Some, None}
use Rattle.dch_retx.specs.declared.sent_pdu.SentPdu.{SentPdu}
use Rattle.dch_retx.specs.Flights.{at, first_requested, requested_in}
use Rattle.dch_am.specs.Rules.{Rules}
use Rattle.dch_am.specs.Bodies.{carried, indicators_of}
use Rattle.dch_am.specs.Cuts.{IsCut}
use Rattle.dch_am.specs.Sender.{Sender, vt_a}
use Rattle.dch_am.specs.Building.{body_at}
use Rattle.dch_rlcpdu.specs.Am.{am_pdu}
use Rattle.dch_retx.specs.RetxBuffer.{RetxBuffer}
use Rattle.dch_retx.specs.Standing.{Stands as LineStands}
use Rattle.dch_amsend.specs.BufferStanding.{HasBody, BufferStands, Takes, fills}
use Rattle.dch_amsend.specs.TxBuffer.{TxBuffer, body_in, unsent_of}
use Rattle.dch_amsend.specs.Counting.{builds_of}

-- the octets of a PDU, the PDUs that were sent, and the SDUs that are held
pub record Outgoing : Type 0 where
  pub size : ℕ
  pub line : RetxBuffer
  pub tx_buffer : TxBuffer

abbrev pub with_line : RetxBuffer → Outgoing → Outgoing
with_line l v = record { size = v.size; line = l; tx_buffer = v.tx_buffer }

-- how many PDUs could be built one after another, at most 64
abbrev pub available_of : Outgoing → ℕ
available_of v = min 64 (builds_of (min 64 (requested_in v.line.in_flight))
    (min (v.line.window - length v.line.in_flight)
    (fills 64 (v.tx_buffer.size - 2) (unsent_of v.tx_buffer))) v.line.owed (length v.line.in_flight))

-- a PDU can be built
abbrev pub can_build : Outgoing → Bool
can_build v = nat_lt 0 (available_of v)

-- the octets of a PDU in flight, with its number and its poll bit
abbrev pub pdu_in : ℕ → Bool → SentPdu → Outgoing → List ℕ
pdu_in number poll f v = am_pdu number poll (indicators_of (v.tx_buffer.size - 2) (body_in v.tx_buffer f))
    (carried (body_in v.tx_buffer f)) v.tx_buffer.size

-- the first PDU in flight
abbrev pub first_in_flight : List SentPdu → Option SentPdu
first_in_flight [] = None
first_in_flight (f ∷ fs) = Some f

-- the last PDU in flight stands at this place, and none is requested
pub record IsLast (l : RetxBuffer) (place : ℕ) : Type 0 where
  pub some : 0 < length l.in_flight
  pub none : length l.in_flight ≤ first_requested l.in_flight
  pub place_is : place ≡ length l.in_flight - 1

-- it stands for this sender, whose PDUs have d octets behind the header
pub record IsOutgoing (rules : Rules) (d : ℕ) (v : Outgoing) (s : Sender) : Type 0 where
  pub size : v.size ≡ d + 2
  pub line : LineStands rules v.line s
  pub tx_buffer : BufferStands d v.tx_buffer s
  pub room : v.tx_buffer.blocks ≡ rules.buffer
  pub cut : IsCut s.accepted s.unsent s.bodies
  pub in_flight : (i : ℕ) → i < length v.line.in_flight
      → HasBody d (at v.line.in_flight i) (body_at s.bodies (vt_a s + i))
  pub taken : (i : ℕ) → i < length v.line.in_flight → Takes s (vt_a s + i) (at v.line.in_flight i).extent

-- it stands for a sender
pub record IsRunning (v : Outgoing) : Type 0 where
  pub from : 6 ≤ v.size
  pub most : v.size ≤ 126
  pub rules : Rules
  pub sender : Sender
  pub stands : IsOutgoing rules (v.size - 2) v sender

-- the same SDUs are held in as many blocks
pub record HoldsSame (old new : TxBuffer) : Type 0 where
  pub sdus : new.sdus ≡ old.sdus
  pub blocks : new.blocks ≡ old.blocks
