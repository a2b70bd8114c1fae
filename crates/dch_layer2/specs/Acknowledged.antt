-- What an acknowledged bearer keeps at an end, and what it stands for.
use Rattle.std.specs.Prelude.{◌≡◌, ◌++◌, ◌||◌, ℕ, List, Bool, true, false, length, Option, Some, None, Result}
use Rattle.dch_bits.specs.declared.bit.Bit.{Bit}
use Rattle.dch_types.specs.declared.channel.Dir.{Dir}
use Rattle.dch_rlcpdu.specs.declared.am.AmView.{AmView}
use Rattle.dch_am.specs.Entities.{Entity, IsWritten, receiver_after, sender_after, turn, writes}
use Rattle.dch_am.specs.Receiver.{Receiver}
use Rattle.dch_am.specs.Rules.{Rules}
use Rattle.dch_am.specs.Sender.{Sender}
use Rattle.dch_am.specs.declared.answers.StatusTaken.{StatusTaken}
use Rattle.dch_amlaw.specs.Pair.{is_beyond}
use Rattle.dch_pair.specs.Answers.{is_outside, is_unknown}
use Rattle.dch_pair.specs.EntityStanding.{Represents, Running, is_settled, size_in, size_of}
use Rattle.dch_pair.specs.declared.answers.Received.{Received}
use Rattle.dch_pair.specs.declared.answers.Received.TheVariants.{Data, Control, Reset, ResetAck}
use Rattle.dch_indication.specs.Lines.{Line, Outside}
use Rattle.dch_rlcpdu.specs.declared.handed.PduError.{PduError}
use Rattle.dch_layer2.specs.Hearing.{hears_am}
use Rattle.dch_layer2.specs.Octets.{AreOctets, block_of}
use Rattle.dch_layer2.specs.UnitLines.{line_if, unit_lines}
use Rattle.dch_layer2.specs.Shapes.{IsWhole}
use Rattle.dch_layer2.specs.declared.shape.Shape.{Shape}

-- its number, the direction in which blocks come, the blocks that it sends, and its entity
pub record AmRunning : Type 0 where
  pub number : ℕ
  pub into : Dir
  pub shape : Shape
  pub entity : Running

-- its PDUs fill the blocks, and no unit that ended waits
pub record IsAmShape (shape : Shape) (v : Running) : Type 0 where
  pub octets : size_of v ≡ shape.octets
  pub whole : IsWhole shape
  pub settled : is_settled v ≡ true

-- two sides as an entity of which all units that ended were handed up
abbrev pub entity_of : Sender → Receiver → Entity
entity_of s r = record { sender = s; receiver = r; handed = length r.reading.units }

-- it has these sides
pub record HasSides (rules : Rules) (s : Sender) (r : Receiver) (v : AmRunning) : Type 0 where
  pub entity : Represents rules v.entity (entity_of s r)

-- what else it keeps stays
pub record IsSameBearer (a b : AmRunning) : Type 0 where
  pub number : b.number ≡ a.number
  pub into : b.into ≡ a.into
  pub shape : b.shape ≡ a.shape
  pub comes : size_in b.entity ≡ size_in a.entity

-- there is something to build
pub record HasTurn (v : AmRunning) : Type 0 where
  pub rules : Rules
  pub sender : Sender
  pub receiver : Receiver
  pub sides : HasSides rules sender receiver v
  pub some : true ≡ writes (turn rules sender receiver)

-- a block was built at its turn
pub record BuildsAtTurn (rules : Rules) (s : Sender) (r : Receiver) (old new : AmRunning)
    (block : List Bit) : Type 0 where
  pub octets : List ℕ
  pub some : true ≡ writes (turn rules s r)
  pub written : IsWritten (turn rules s r) rules old.shape.octets octets s r
  pub small : AreOctets octets
  pub long : length octets ≡ old.shape.octets
  pub block_is : block ≡ block_of old.shape.ct octets
  pub sides : HasSides rules (sender_after (turn rules s r) rules old.shape.octets s)
      (receiver_after (turn rules s r) rules r) new

-- the lines on octets that came
abbrev pub lines_on : Rules → Dir → ℕ → Result AmView PduError → Sender → Receiver → List Line
lines_on rules dir b reading s r = (hears_am rules dir b reading s r).lines

-- what is reported before the units and behind them: a PDU, or a status, is outside; a status that rides on a PDU is
abbrev pub outside_first : Received → Bool
outside_first (Data taken piggyback) = is_outside taken
outside_first (Control status mrw) = is_unknown status || is_beyond mrw
outside_first (Reset rsn) = false
outside_first (ResetAck rsn) = false

abbrev pub unknown_riding : Option StatusTaken → Bool
unknown_riding None = false
unknown_riding (Some status) = is_unknown status

abbrev pub outside_last : Received → Bool
outside_last (Data taken piggyback) = unknown_riding piggyback
outside_last (Control status mrw) = false
outside_last (Reset rsn) = false
outside_last (ResetAck rsn) = false

-- the lines on a PDU that is answered so, with the units that ended
abbrev pub received_lines : Dir → ℕ → Received → List (List ℕ) → List Line
received_lines dir b received units = line_if (outside_first received) (Outside dir b) ++ unit_lines dir b units
    ++ line_if (outside_last received) (Outside dir b)
