-- What a good block does to its bearer (TS 25.322 11), and what is reported of it.
use Rattle.std.specs.Prelude.{◌++◌, ◌||◌, ℕ, List, [], ◌∷◌, Bool, Option, Some, None, Result, Ok, Err, drop, length, false}
use Rattle.dch_bits.specs.declared.bit.Bit.{Bit}
use Rattle.dch_types.specs.declared.channel.Dir.{Dir}
use Rattle.dch_types.specs.declared.config.Config.{Config}
use Rattle.dch_rlcpdu.specs.Fields.{Field}
use Rattle.dch_rlcpdu.specs.declared.handed.PduError.{PduError}
use Rattle.dch_rlcpdu.specs.Errors.{error_number}
use Rattle.dch_rlcpdu.specs.declared.um.UmView.{UmView}
use Rattle.dch_rlcpdu.specs.declared.am.AmView.{AmView}
use Rattle.dch_rlcpdu.specs.declared.am.AmView.TheVariants.{Payload, Status, Reset, ResetAck}
use Rattle.dch_rlcpdu.specs.Am.{am_reading}
use Rattle.dch_rlcpdu.specs.Um.{um_reading}
use Rattle.dch_rlcum.specs.Receiving.{Receiving, after_pdu as after_um}
use Rattle.dch_rlcum.specs.Handing.{all_handed}
use Rattle.dch_am.specs.Acknowledging.{status_answer}
use Rattle.dch_am.specs.Moves.{control_answer}
use Rattle.dch_am.specs.Receiver.{Receiver, taken}
use Rattle.dch_am.specs.Rules.{Rules}
use Rattle.dch_am.specs.Sender.{Sender}
use Rattle.dch_am.specs.Entities.{pdu_of, receiver_by, sender_by}
use Rattle.dch_amlaw.specs.Pair.{is_beyond, is_outside_answer}
use Rattle.dch_pair.specs.Answers.{is_unknown}
use Rattle.dch_indication.specs.Lines.{Line, GotBits, Outside, PduBad}
use Rattle.dch_layer2.specs.UnitLines.{line_if, unit_lines}
use Rattle.dch_layer2.specs.Octets.{octets_of}
use Rattle.dch_layer2.specs.Bearings.{Bearing, Transparent, Unacknowledged, Acknowledged, Sends, rules_in}

-- a bearer after a block, and the lines
pub record Heard : Type 0 where
  pub bearing : Bearing
  pub lines : List Line

-- all units that ended are handed up
abbrev pub hears_um : Dir → ℕ → Result UmView PduError → Sends → Receiving → Heard
hears_um dir b (Ok view) s r = record {
  bearing = Unacknowledged s (all_handed (after_um view r));
  lines = unit_lines dir b (after_um view r).waiting;
}
hears_um dir b (Err e) s r = record { bearing = Unacknowledged s r; lines = PduBad dir b (error_number e) ∷ [] }

-- the two sides after octets came that read so
abbrev pub sender_of : Rules → Result AmView PduError → Sender → Sender
sender_of rules (Ok view) s = sender_by rules (pdu_of view) s
sender_of rules (Err e) s = s

abbrev pub receiver_of : Rules → Result AmView PduError → Receiver → Receiver
receiver_of rules (Ok view) r = receiver_by rules (pdu_of view) r
receiver_of rules (Err e) r = r

-- a status that rides on a PDU is answered Outside
abbrev pub rides_outside : Rules → Option (List Field) → Sender → Bool
rides_outside rules None s = false
rides_outside rules (Some fields) s = is_unknown (status_answer rules s fields)

-- the lines around the units that are handed up. A PDU and the status that rides on it are each judged by itself
abbrev pub lines_by : Rules → Dir → ℕ → Result AmView PduError → Sender → Receiver → List (List ℕ) → List Line
lines_by rules dir b (Ok (Payload sn poll c piggyback)) s r units = line_if (is_outside_answer (taken rules r sn))
    (Outside dir b) ++ unit_lines dir b units ++ line_if (rides_outside rules piggyback s) (Outside dir b)
lines_by rules dir b (Ok (Status fields)) s r units =
    line_if (is_unknown (status_answer rules s fields) || is_beyond (control_answer rules r fields)) (Outside dir b) ++
    unit_lines dir b units
lines_by rules dir b (Ok (Reset rsn hfni)) s r units = []
lines_by rules dir b (Ok (ResetAck rsn hfni)) s r units = []
lines_by rules dir b (Err e) s r units = PduBad dir b (error_number e) ∷ []

-- the units that a receiver has handed up since
abbrev pub new_units : Receiver → Receiver → List (List ℕ)
new_units old new = drop (length old.reading.units) new.reading.units

abbrev pub hears_am : Rules → Dir → ℕ → Result AmView PduError → Sender → Receiver → Heard
hears_am rules dir b view s r = record {
  bearing = Acknowledged (sender_of rules view s) (receiver_of rules view r);
  lines = lines_by rules dir b view s r (new_units r (receiver_of rules view r));
}

-- what the bits of a PDU that came for bearer b make of it, and the lines on it
abbrev pub hears : Config → Dir → ℕ → List Bit → Bearing → Heard
hears config dir b bits (Transparent w us) = record { bearing = Transparent w us; lines = GotBits dir b bits ∷ [] }
hears config dir b bits (Unacknowledged s r) = hears_um dir b (um_reading (octets_of bits)) s r
hears config dir b bits (Acknowledged s r) = hears_am (rules_in config b) dir b (am_reading (octets_of bits)) s r
