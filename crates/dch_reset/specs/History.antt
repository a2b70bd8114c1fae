-- An end of a history, as what it keeps.
use Rattle.std.specs.Prelude.{◌≡◌, Bool, true, false, length}
use Rattle.dch_am.specs.Entities.{Pdu, ResetPdu, ResetAckPdu}
use Rattle.dch_amlaw.specs.Pair.{all_handed, pdu_in}
use Rattle.dch_reset.specs.Ends.{ResetEnd, Sent, Data, ResetPdu as ResetSent, ResetAckPdu as ResetAckSent}
use Rattle.dch_reset.specs.State.{State}
use Rattle.dch_reset.specs.declared.answers.Got.{Got}
use Rattle.dch_reset.specs.declared.answers.Got.TheVariants.{Bad, Restarted, Repeated, Ignored, Taken, Duplicate, Outside}

abbrev pub state_of : ResetEnd → State
state_of e = record {
  entity = e.sides.entity;
  pending = e.pending;
  next_rsn = e.next_rsn;
  heard = e.heard;
  owes = e.owes;
  restarts = e.restarts;
}

-- what is in flight, as the PDU that the other end reads
abbrev pub pdu_sent : Sent → Pdu
pdu_sent (Data label block) = pdu_in block
pdu_sent (ResetSent rsn hfni) = ResetPdu rsn
pdu_sent (ResetAckSent rsn hfni) = ResetAckPdu rsn

-- no unit waits, and an end that has handed up all units
abbrev pub IsAllHanded : State → Type 0
IsAllHanded e = e.entity.handed ≡ length e.entity.receiver.reading.units

abbrev pub handed_up : State → State
handed_up e = record e { entity = all_handed e.entity }

-- the answer is Outside
abbrev pub is_outside : Got → Bool
is_outside (Bad error) = false
is_outside Restarted = false
is_outside Repeated = false
is_outside Ignored = false
is_outside Taken = false
is_outside Duplicate = false
is_outside Outside = true
