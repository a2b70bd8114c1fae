-- What an entity of the acknowledged mode answers (TS 25.322 4.2.1.3).
use Rattle.std.specs.Prelude.{◌&&◌, ℕ, List, Bool, true, false, drop, Option, Some, None}
use Rattle.dch_rlcpdu.specs.Fields.{Field}
use Rattle.dch_am.specs.Acknowledging.{status_answer}
use Rattle.dch_am.specs.Entities.{Entity, Pdu, DataPdu, StatusPdu, ResetPdu, ResetAckPdu, Turn, Tells, Moves, Sends, Rests}
use Rattle.dch_am.specs.Moves.{control_answer}
use Rattle.dch_am.specs.Receiver.{taken}
use Rattle.dch_am.specs.Rules.{Rules}
use Rattle.dch_am.specs.Sender.{Sender}
use Rattle.dch_am.specs.declared.answers.MrwTaken.{MrwTaken}
use Rattle.dch_am.specs.declared.answers.MrwTaken.TheVariants.{Nothing, Obeyed, Old, Outside as OutsideMove}
use Rattle.dch_am.specs.declared.answers.StatusTaken.{StatusTaken}
use Rattle.dch_am.specs.declared.answers.StatusTaken.TheVariants.{Taken as Heard, Outside as Unknown}
use Rattle.dch_am.specs.declared.answers.Taken.{Taken}
use Rattle.dch_am.specs.declared.answers.Taken.TheVariants.{Kept, Duplicate, Outside}
use Rattle.dch_pair.specs.declared.answers.Built.{Built}
use Rattle.dch_pair.specs.declared.answers.Built.TheVariants.{Status, Mrw, Data as DataBuilt}
use Rattle.dch_pair.specs.declared.answers.Received.{Received}
use Rattle.dch_pair.specs.declared.answers.Received.TheVariants.{Data, Control, Reset, ResetAck}

-- what is built at a turn
abbrev pub built_at : Turn → Option Built
built_at Tells = Some Status
built_at Moves = Some Mrw
built_at Sends = Some DataBuilt
built_at Rests = None

-- what the status that rides on a data PDU is answered
abbrev pub riding_answer : Rules → Option (List Field) → Sender → Option StatusTaken
riding_answer rules None s = None
riding_answer rules (Some fields) s = Some (status_answer rules s fields)

-- what a PDU that comes is answered: a data PDU and the status that rides on it each by itself, and a status by both
-- sides
abbrev pub received : Rules → Entity → Pdu → Received
received rules e (DataPdu sn poll body rides) = Data (taken rules e.receiver sn) (riding_answer rules rides e.sender)
received rules e (StatusPdu fields) = Control (status_answer rules e.sender fields)
    (control_answer rules e.receiver fields)
received rules e (ResetPdu rsn) = Reset rsn
received rules e (ResetAckPdu rsn) = ResetAck rsn

-- a data PDU, a status and an MRW that are outside, or aren't there, change nothing
abbrev pub is_outside : Taken → Bool
is_outside Kept = false
is_outside Duplicate = false
is_outside Outside = true

abbrev pub is_unknown : StatusTaken → Bool
is_unknown Heard = false
is_unknown (Unknown number) = true

abbrev pub is_refused_riding : Option StatusTaken → Bool
is_refused_riding None = true
is_refused_riding (Some status) = is_unknown status

abbrev pub moves_nothing : MrwTaken → Bool
moves_nothing Nothing = true
moves_nothing Obeyed = false
moves_nothing Old = false
moves_nothing (OutsideMove number) = true

-- a PDU that is answered so has changed nothing
abbrev pub is_refused : Received → Bool
is_refused (Data taken piggyback) = is_outside taken && is_refused_riding piggyback
is_refused (Control status mrw) = is_unknown status && moves_nothing mrw
is_refused (Reset rsn) = true
is_refused (ResetAck rsn) = true

-- the units that have been read and wait
abbrev pub waiting : Entity → List (List ℕ)
waiting e = drop e.handed e.receiver.reading.units
