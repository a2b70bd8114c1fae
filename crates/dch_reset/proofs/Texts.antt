-- What an end builds reads as what it sends.
use Rattle.std.proofs.Common.{◌≡◌, ◌+◌, ◌-◌, ◌*◌, ◌/◌, ◌%◌, ◌<◌, ◌≤◌, ℕ, List, ◌∷◌, Bool, true, false, cond, Option, Some, None, Ok, length, replicate, arith, refl, ap, ◌∙◌, subst}
use Rattle.std.specs.Prelude.{◌==◌, nat_lt}
use Rattle.std.proofs.lemmas.Bool.{le-ltb, cond-false}
use Rattle.dch_am.specs.Entities.{DataPdu, turn as entity_turn}
use Rattle.dch_am.specs.Numbers.{wrapped}
use Rattle.dch_am.specs.Rules.{Rules}
use Rattle.dch_am.specs.Status.{fields_of}
use Rattle.dch_rlcpdu.specs.Am.{am_reading, as_reset, as_reset_ack}
use Rattle.dch_rlcpdu.specs.AmControl.{reset_reading, reset_text}
use Rattle.dch_rlcpdu.specs.declared.am.AmView.TheVariants.{Payload as Read, Status, Reset, ResetAck}
use Rattle.dch_rlcpdu.specs.Fields.{mrw_fields}
use Rattle.dch_txbuf.specs.Content.{content_of}
use Rattle.dch_amlaw.specs.Pair.{Block, Payload, Mrw, Report, built}
use Rattle.dch_pair.proofs.Lines.{IsSent as IsBlockSent, IsWire, written_sent}
use Rattle.dch_reset.specs.History.{state_of}
use Rattle.dch_reset.specs.State.{Asks, Waits, IsReset, IsWritten, turn_by, writes}
use Rattle.dch_reset.specs.Ends.{Built, Pending, ResetEnd, Data, ResetPdu, ResetAckPdu, builds_by, hfni_of, labelled, rsn_of}
use Rattle.dch_reset.specs.RunStanding.{IsRead, IsSent}

-- a block of an end's stretch
block_read : (d : ℕ) (out : List ℕ) (label : ℕ) (b : Block) → IsWire d out b → IsRead out (Data label b)
block_read d out label (Payload k poll body) is = record { view = Read (wrapped k) poll (content_of d body) None; reads = is.read; is = ap (λ x. DataPdu (wrapped k) poll x None) is.same }
block_read d out label (Mrw k n end_of_discard) is = record { view = Status (mrw_fields (wrapped k) n); reads = is; is = refl }
block_read d out label (Report t) is = record { view = Status (fields_of t); reads = is; is = refl }

data_read : (d : ℕ) (out : List ℕ) (label : ℕ) (o : Option Block) → IsBlockSent d out o → IsSent out (labelled label o)
data_read d out label None is = is
data_read d out label (Some b) is = block_read d out label b is

-- a RESET and a RESET ACK
small : (n : ℕ) → hfni_of n < 1048576
small n = omega arith

reading_is : (first h size : ℕ) → h < 1048576 → reset_reading (first ∷ (h / 4096) ∷ (h / 16 % 256) ∷ (16 * (h % 16)) ∷ replicate (size - 4) 0) ≡ Some (first / 8 % 2 == 1, h)
reading_is first h size l =
    let e : 4096 * (h / 4096) + 16 * (h / 16 % 256) + 16 * (h % 16) / 16 ≡ h = omega arith in
    cond-false (nat_lt (length (first ∷ (h / 4096) ∷ (h / 16 % 256) ∷ (16 * (h % 16)) ∷ replicate (size - 4) 0)) 4) _ _ (le-ltb _ _ (omega arith))
    ∙ ap (λ n. Some (first / 8 % 2 == 1, n)) e

reset_reads : (rsn : Bool) (h size : ℕ) → h < 1048576 → am_reading (reset_text 1 rsn h size) ≡ Ok (Reset rsn h)
reset_reads true h size l = ap as_reset (reading_is 24 h size l)
reset_reads false h size l = ap as_reset (reading_is 16 h size l)

reset_ack_reads : (rsn : Bool) (h size : ℕ) → h < 1048576 → am_reading (reset_text 2 rsn h size) ≡ Ok (ResetAck rsn h)
reset_ack_reads true h size l = ap as_reset_ack (reading_is 40 h size l)
reset_ack_reads false h size l = ap as_reset_ack (reading_is 32 h size l)

reset_read : (rsn : Bool) (restarts size : ℕ) (out : List ℕ) → out ≡ reset_text 1 rsn (hfni_of restarts) size → IsRead out (ResetPdu rsn (hfni_of restarts))
reset_read rsn restarts size out e = record { view = Reset rsn (hfni_of restarts); reads = ap am_reading e ∙ reset_reads rsn (hfni_of restarts) size (small restarts); is = refl }

reset_ack_read : (rsn : Bool) (restarts size : ℕ) (out : List ℕ) → out ≡ reset_text 2 rsn (hfni_of restarts) size → IsRead out (ResetAckPdu rsn (hfni_of restarts))
reset_ack_read rsn restarts size out e = record { view = ResetAck rsn (hfni_of restarts); reads = ap am_reading e ∙ reset_ack_reads rsn (hfni_of restarts) size (small restarts); is = refl }

-- the RESET of a pending end, where it is due
asked_read : (rules : Rules) (e : ResetEnd) (p : Pending) (out : List ℕ) (t : Bool) → e.pending ≡ Some p → true ≡ writes (cond t Asks Waits) → IsWritten (cond t Asks Waits) rules e.sides.octets out (state_of e) → IsSent out (cond {A = Built} t (record { after = record e { pending = Some (record p { rst_timer = 30 }) }; sent = Some (ResetPdu p.rsn (hfni_of e.restarts)) }) (record { after = e; sent = None })).sent
asked_read rules e p out true s w is = reset_read p.rsn e.restarts e.sides.octets out (subst (λ x. IsReset x e.restarts e.sides.octets out) s is)
asked_read rules e p out false s w is = absurd (cc)

-- what is written reads as what is sent
pub written_read : (rules : Rules) (e : ResetEnd) (owes : Bool) (q : Option Pending) (out : List ℕ) → e.sides.octets ≤ 126 → e.pending ≡ q → true ≡ writes (turn_by rules e.sides.entity owes q) → IsWritten (turn_by rules e.sides.entity owes q) rules e.sides.octets out (state_of e) → IsSent out (builds_by rules e owes q).sent
written_read rules e true q out most s w is = reset_ack_read (rsn_of e.heard) e.restarts e.sides.octets out is
written_read rules e false (Some p) out most s w is = asked_read rules e p out (p.rst_timer == 0) s w is
written_read rules e false None out most s w is = data_read (e.sides.octets - 2) out e.restarts (built rules e.sides) (written_sent (entity_turn rules e.sides.entity.sender e.sides.entity.receiver) rules e.sides out most refl w is)
