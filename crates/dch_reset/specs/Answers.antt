-- What an end that can be reset answers to a PDU (TS 25.322 11.4).
use Rattle.std.specs.Prelude.{ℕ, Bool, true, false, Option, Some, None, Result, Ok, Err, if◌then◌else◌}
use Rattle.dch_am.specs.Entities.{Pdu, DataPdu, StatusPdu, ResetPdu, ResetAckPdu, pdu_of}
use Rattle.dch_am.specs.Receiver.{taken}
use Rattle.dch_am.specs.Rules.{Rules}
use Rattle.dch_am.specs.declared.answers.MrwTaken.{MrwTaken}
use Rattle.dch_am.specs.declared.answers.MrwTaken.TheVariants.{Nothing, Obeyed, Old, Outside as OutsideMove}
use Rattle.dch_am.specs.declared.answers.StatusTaken.{StatusTaken}
use Rattle.dch_am.specs.declared.answers.StatusTaken.TheVariants.{Taken as Heard, Outside as Unknown}
use Rattle.dch_am.specs.declared.answers.Taken.{Taken as PduTaken}
use Rattle.dch_am.specs.declared.answers.Taken.TheVariants.{Kept, Duplicate as Again, Outside as NotInside}
use Rattle.dch_pair.specs.Answers.{received}
use Rattle.dch_pair.specs.declared.answers.Received.{Received}
use Rattle.dch_pair.specs.declared.answers.Received.TheVariants.{Data, Control, Reset, ResetAck}
use Rattle.dch_rlcpdu.specs.declared.am.AmView.{AmView}
use Rattle.dch_rlcpdu.specs.declared.handed.PduError.{PduError}
use Rattle.dch_reset.specs.Ends.{Pending, is_asked, is_heard}
use Rattle.dch_reset.specs.State.{Come, State, step}
use Rattle.dch_reset.specs.declared.answers.Got.{Got}
use Rattle.dch_reset.specs.declared.answers.Got.TheVariants.{Bad, Restarted, Repeated, Ignored, Taken, Duplicate, Outside}

-- a PDU is outside where its status is
abbrev pub unless_unknown : StatusTaken → Got → Got
unless_unknown Heard got = got
unless_unknown (Unknown number) got = Outside

abbrev pub unless_riding : Option StatusTaken → Got → Got
unless_riding None got = got
unless_riding (Some status) got = unless_unknown status got

abbrev pub data_answer : PduTaken → Option StatusTaken → Got
data_answer Kept rides = unless_riding rides Taken
data_answer Again rides = unless_riding rides Duplicate
data_answer NotInside rides = Outside

abbrev pub move_answer : MrwTaken → Got
move_answer Nothing = Taken
move_answer Obeyed = Taken
move_answer Old = Taken
move_answer (OutsideMove number) = Outside

-- what its entity answers. To a RESET and to a RESET ACK an end answers itself
abbrev pub entity_answer : Received → Got
entity_answer (Data taken rides) = data_answer taken rides
entity_answer (Control status mrw) = unless_unknown status (move_answer mrw)
entity_answer (Reset rsn) = Ignored
entity_answer (ResetAck rsn) = Ignored

abbrev pub unless_pending : Option Pending → Got → Got
unless_pending None got = got
unless_pending (Some p) got = Ignored

abbrev pub answer : Rules → State → Pdu → Got
answer rules e (DataPdu sn poll body rides) = unless_pending e.pending
    (entity_answer (received rules e.entity (DataPdu sn poll body rides)))
answer rules e (StatusPdu fields) = unless_pending e.pending
    (entity_answer (received rules e.entity (StatusPdu fields)))
answer rules e (ResetPdu rsn) = if is_heard e.heard rsn then Repeated else Restarted
answer rules e (ResetAckPdu rsn) = if is_asked e.pending rsn then Restarted else Ignored

-- to octets that read so, and the end after they came
abbrev pub answer_read : Rules → State → Result AmView PduError → Got
answer_read rules e (Ok view) = answer rules e (pdu_of view)
answer_read rules e (Err error) = Bad error

abbrev pub came_read : Rules → ℕ → State → Result AmView PduError → State
came_read rules size e (Ok view) = step rules size e (Come (pdu_of view))
came_read rules size e (Err error) = e

-- nothing has changed where a PDU is answered so
abbrev pub is_unread : Got → Bool
is_unread (Bad error) = true
is_unread Restarted = false
is_unread Repeated = false
is_unread Ignored = true
is_unread Taken = false
is_unread Duplicate = false
is_unread Outside = false
