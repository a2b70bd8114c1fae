-- An entity with its counts, after what happens to it.
use Rattle.std.proofs.Common.{◌≡◌, ◌+◌, ◌-◌, ◌<◌, ℕ, List, [], ◌∷◌, ◌++◌, true, false, cond, length, take, drop, append_assoc, Option, Some, None, arith, refl, sym, ap, ap₂, ◌∙◌, subst, length-append, length-drop}
use Rattle.std.specs.Prelude.{nat_lt}
use Rattle.std.proofs.lemmas.Bool.{eqb-false, eqb-true, lt-ltb}
use Rattle.std.proofs.lemmas.List.{length-map}
use Rattle.std.proofs.Math.Seq.{drop-append_seam}
use Rattle.dch_bits.specs.declared.offer.Offer.{Offer}
use Rattle.dch_bits.specs.declared.offer.Offer.TheVariants.{Accepted, Full, WrongSize}
use Rattle.dch_rlcpdu.specs.Fields.{Field}
use Rattle.dch_am.specs.Entities.{Come, Entity, HandUp, Pdu, DataPdu, StatusPdu, ResetPdu, ResetAckPdu, IsWritten, Turn, Tells, Moves, Sends, Rests, after_riding, receiver_after, receiver_by, sender_after, sender_by, step, with_sides, writes}
use Rattle.dch_am.specs.Receiver.{Receiver}
use Rattle.dch_am.specs.Rules.{Rules}
use Rattle.dch_am.specs.Sender.{Sender, after_offer}
use Rattle.dch_amlaw.specs.Pair.{all_handed}
use Rattle.dch_amlaw.proofs.Short.{fields_same}
use Rattle.dch_pair.specs.EntityStanding.{Represents, Running, is_settled, waiting_in}
use Rattle.dch_pair.specs.Standing.{Earlier, IsPeer, Peer, whole}
use Rattle.dch_pair.proofs.Units.{Grown, grown_by_pdu, whole-append, whole-map}

-- an accepted unit is counted
pub offer_count : (o : Offer) (s : Sender) (unit : List ℕ) (n : ℕ) → Accepted ≡ o → n ≡ length s.accepted → n + 1 ≡ length (after_offer o s unit).accepted
offer_count Accepted s unit n e is = omega (arith, is, length-append s.accepted (unit ∷ []))
offer_count Full s unit n e is = absurd (cc)
offer_count WrongSize s unit n e is = absurd (cc)

-- a PDU that comes changes nothing of which units were accepted
riding_same : (rules : Rules) (rides : Option (List Field)) (s : Sender) → (after_riding rules rides s).accepted ≡ s.accepted
riding_same rules None s = refl
riding_same rules (Some fields) s = fields_same rules s fields

accepted_same : (rules : Rules) (pdu : Pdu) (s : Sender) → (sender_by rules pdu s).accepted ≡ s.accepted
accepted_same rules (DataPdu sn poll body rides) s = riding_same rules rides s
accepted_same rules (StatusPdu fields) s = fields_same rules s fields
accepted_same rules (ResetPdu rsn) s = refl
accepted_same rules (ResetAckPdu rsn) s = refl

-- nor does what is written at a turn change which units were read
pub read_same : (t : Turn) (rules : Rules) (r : Receiver) → (receiver_after t rules r).reading ≡ r.reading
read_same Tells rules r = refl
read_same Moves rules r = refl
read_same Sends rules r = refl
read_same Rests rules r = refl

-- where nothing is written nothing changes
pub rests : (t : Turn) (rules : Rules) (size : ℕ) (e : Entity) → false ≡ writes t → with_sides e (sender_after t rules size e.sender) (receiver_after t rules e.receiver) ≡ e
rests Tells rules size e w = absurd (cc)
rests Moves rules size e w = absurd (cc)
rests Sends rules size e w = absurd (cc)
rests Rests rules size e w = refl

-- the units that wait are those behind the ones that were handed up
pub handed_is : (rules : Rules) (v : Running) (e : Entity) → Represents rules v e → e.handed + length (waiting_in v) ≡ length e.receiver.reading.units
handed_is rules v e is = omega (arith, ap length is.receiver.units.waiting, length-map (drop e.handed e.receiver.reading.units) (take 1501), length-drop e.handed e.receiver.reading.units, is.receiver.units.within)

-- so many of them were handed up
abbrev pub handed_to : ℕ → Entity → Entity
handed_to n e = record { sender = e.sender; receiver = e.receiver; handed = n }

pub now_handed : (rules : Rules) (v : Running) (e : Entity) → Represents rules v e → Represents rules v (handed_to (length e.receiver.reading.units - length (waiting_in v)) e)
now_handed rules v e is = subst (λ n. Represents rules v (handed_to n e)) (omega (arith, handed_is rules v e is)) is

-- one more is
pub one_handed : (rules : Rules) (v now : Running) (e : Entity) → is_settled v ≡ false → waiting_in now ≡ drop 1 (waiting_in v) → Represents rules v (handed_to (length e.receiver.reading.units - length (waiting_in v)) e) → ((x : Entity) → Represents rules v x → Represents rules now (step rules 0 x HandUp)) → Represents rules now (handed_to (length e.receiver.reading.units - length (waiting_in now)) e)
one_handed rules v now e some rest is hands = subst (λ n. Represents rules now (handed_to n e)) next (hands (handed_to so_far e) is)
  where
    all : ℕ
    all = length e.receiver.reading.units

    so_far : ℕ
    so_far = all - length (waiting_in v)

    sum : so_far + length (waiting_in v) ≡ all
    sum = handed_is rules v (handed_to so_far e) is

    waits : 0 < length (waiting_in v)
    waits = omega (arith, eqb-false (length (waiting_in v)) 0 some)

    next : cond (nat_lt so_far all) (so_far + 1) so_far ≡ all - length (waiting_in now)
    next = ap (λ b. cond b (so_far + 1) so_far) (lt-ltb so_far all (omega (arith, sum, waits))) ∙ omega (arith, sum, waits, ap length rest, length-drop 1 (waiting_in v))

-- all are
pub none_waits : (rules : Rules) (v : Running) (e : Entity) → is_settled v ≡ true → Represents rules v (handed_to (length e.receiver.reading.units - length (waiting_in v)) e) → Represents rules v (all_handed e)
none_waits rules v e settled is = subst (λ n. Represents rules v (handed_to n e)) (omega (arith, eqb-true (length (waiting_in v)) 0 settled)) is

-- after a PDU came and its units are handed up
pub peer_hears : (rules : Rules) (size : ℕ) (v : Peer) (came now : Running) (units : List (List ℕ)) (earlier : Earlier) (e : Entity) (pdu : Pdu) → is_settled v.entity ≡ true → IsPeer rules v earlier e → Represents rules came (step rules size e (Come pdu)) → units ≡ v.units ++ whole (waiting_in came) → Represents rules now (all_handed (step rules size e (Come pdu))) → IsPeer rules (record { entity = now; accepted = v.accepted; units = units }) earlier (all_handed (step rules size e (Come pdu)))
peer_hears rules size v came now units earlier e pdu settled is heard more entity = record {
  entity = entity;
  accepted = is.accepted ∙ ap (λ (us : List (List ℕ)). earlier.accepted + length us) (sym (accepted_same rules pdu e.sender));
  units = more ∙ (ap₂ (λ us vs. us ++ vs) is.units waits ∙ (append_assoc earlier.units (whole e.receiver.reading.units) (whole grown.more) ∙ ap (λ us. earlier.units ++ us) (sym (whole-append e.receiver.reading.units grown.more) ∙ ap whole (sym grown.is))));
}
  where
    grown : Grown e.receiver.reading.units (receiver_by rules pdu e.receiver).reading.units
    grown = grown_by_pdu rules pdu e.receiver

    before : e.handed ≡ length e.receiver.reading.units
    before = omega (arith, handed_is rules v.entity e is.entity, eqb-true (length (waiting_in v.entity)) 0 settled)

    behind : drop e.handed (receiver_by rules pdu e.receiver).reading.units ≡ grown.more
    behind = ap₂ (λ n us. drop n us) before grown.is ∙ drop-append_seam e.receiver.reading.units grown.more

    waits : whole (waiting_in came) ≡ whole grown.more
    waits = ap whole heard.receiver.units.waiting ∙ (whole-map (drop e.handed (receiver_by rules pdu e.receiver).reading.units) ∙ ap whole behind)

-- what is written at a turn, and where nothing is
abbrev pub Wrote : Turn → Rules → ℕ → List ℕ → Earlier → Entity → Peer → Type 0
Wrote t rules size out earlier e now = (true ≡ writes t) × IsWritten t rules size out e.sender e.receiver × IsPeer rules now earlier (with_sides e (sender_after t rules size e.sender) (receiver_after t rules e.receiver))

pub none_written : (t : Turn) (rules : Rules) (size : ℕ) (out : List ℕ) (s : Sender) (r : Receiver) → false ≡ writes t → IsWritten t rules size out s r
none_written Tells rules size out s r w = absurd (cc)
none_written Moves rules size out s r w = absurd (cc)
none_written Sends rules size out s r w = absurd (cc)
none_written Rests rules size out s r w = tt
