-- What an end builds, as a block and as octets, and what it does to the other end.
use Rattle.std.proofs.Common.{◌≡◌, ◌+◌, ◌-◌, ◌*◌, ◌<◌, ◌≤◌, ℕ, List, Bool, true, false, Option, Some, None, Ok, arith, ap, ◌∙◌, refl}
use Rattle.dch_am.specs.Bodies.{Body, carried, indicators_of}
use Rattle.dch_am.specs.Building.{Choice, Again, New, Last, NoPdu, body_of_choice, choice, is_pdu, polls_at}
use Rattle.dch_am.specs.Contents.{body_in}
use Rattle.dch_am.specs.Entities.{Come, DataPdu, Entity, IsWritten, Turn, Tells, Moves, Sends, Rests, step, turn, writes}
use Rattle.dch_am.specs.Numbers.{wrapped}
use Rattle.dch_am.specs.Rules.{Rules}
use Rattle.dch_am.specs.Sender.{Discard, vt_s}
use Rattle.dch_am.specs.Short.{IsShort}
use Rattle.dch_am.specs.Status.{Told, fields_of}
use Rattle.dch_am.specs.Telling.{tells_now}
use Rattle.dch_am.specs.Texts.{IsMrw, IsReport, pdu_of_choice}
use Rattle.dch_am.proofs.Turns.{sends_gives}
use Rattle.dch_rlcpdu.specs.declared.am.AmView.TheVariants.{Payload as Read, Status}
use Rattle.dch_rlcpdu.specs.Am.{am_pdu, am_reading}
use Rattle.dch_rlcpdu.specs.Fields.{mrw_fields}
use Rattle.dch_txbuf.specs.Content.{content_of}
use Rattle.dch_txbuf.proofs.Bodies.{body_is, read_is}
use Rattle.dch_amlaw.specs.Pair.{Block, Payload, Mrw, Report, End, all_handed, block_of, mrw_of, payload_of, pdu_in, report_of}
use Rattle.dch_pair.specs.Standing.{hears}

-- these octets are this block, of an end with so many octets behind the header of a PDU
pub record IsPayload (d : ℕ) (out : List ℕ) (k : ℕ) (poll : Bool) (body : Body) : Type 0 where
  pub read : am_reading out ≡ Ok (Read (wrapped k) poll (content_of d body) None)
  pub same : body_in (content_of d body) ≡ body

abbrev pub IsWire : ℕ → List ℕ → Block → Type 0
IsWire d out (Payload k poll body) = IsPayload d out k poll body
IsWire d out (Mrw k n end_of_discard) = am_reading out ≡ Ok (Status (mrw_fields (wrapped k) n))
IsWire d out (Report t) = am_reading out ≡ Ok (Status (fields_of t))

abbrev pub IsSent : ℕ → List ℕ → Option Block → Type 0
IsSent d out None = ⊥
IsSent d out (Some b) = IsWire d out b

wrapped_small : (k : ℕ) → wrapped k < 4096
wrapped_small k = omega arith

payload_is : (d k : ℕ) (out : List ℕ) (poll : Bool) (b : Body) → d ≤ 124 → out ≡ am_pdu (wrapped k) poll (indicators_of d b) (carried b) (d + 2) → IsShort d b → IsPayload d out k poll b
payload_is d k out poll b small e is = record {
  read = ap am_reading e ∙ read_is (wrapped k) d poll b (wrapped_small k) small is;
  same = body_is d b small is;
}

pdu_sent : (rules : Rules) (e : End) (c : Choice) (out : List ℕ) → is_pdu c ≡ true → e.octets - 2 ≤ 124 → out ≡ pdu_of_choice rules (e.octets - 2) e.entity.sender c → IsShort (e.octets - 2) (body_of_choice c (e.octets - 2) e.entity.sender) → IsSent (e.octets - 2) out (payload_of c rules e)
pdu_sent rules e (Again k) out some small is short = payload_is (e.octets - 2) k out (polls_at (Again k) rules (e.octets - 2) e.entity.sender) (body_of_choice (Again k) (e.octets - 2) e.entity.sender) small is short
pdu_sent rules e New out some small is short = payload_is (e.octets - 2) (vt_s e.entity.sender) out (polls_at New rules (e.octets - 2) e.entity.sender) (body_of_choice New (e.octets - 2) e.entity.sender) small is short
pdu_sent rules e (Last k) out some small is short = payload_is (e.octets - 2) k out (polls_at (Last k) rules (e.octets - 2) e.entity.sender) (body_of_choice (Last k) (e.octets - 2) e.entity.sender) small is short
pdu_sent rules e NoPdu out some small is short = absurd (cc)

mrw_sent : (d : ℕ) (out : List ℕ) (o : Option Discard) → IsMrw out o → IsSent d out (mrw_of o)
mrw_sent d out None is = is
mrw_sent d out (Some x) is = is.read

told_sent : (d : ℕ) (out : List ℕ) (o : Option Told) → IsReport out o → IsSent d out (report_of o)
told_sent d out None is = is.read
told_sent d out (Some t) is = is.read

-- what is written is the block
pub written_sent : (t : Turn) (rules : Rules) (e : End) (out : List ℕ) → e.octets ≤ 126 → turn rules e.entity.sender e.entity.receiver ≡ t → true ≡ writes t → IsWritten t rules e.octets out e.entity.sender e.entity.receiver → IsSent (e.octets - 2) out (block_of t rules e)
written_sent Tells rules e out small now some is = told_sent (e.octets - 2) out (tells_now (8 * e.octets) e.entity.receiver) is
written_sent Moves rules e out small now some is = mrw_sent (e.octets - 2) out e.entity.sender.discard is
written_sent Sends rules e out small now some is = pdu_sent rules e (choice rules e.entity.sender) out (sends_gives rules e.entity.sender e.entity.receiver now) (omega arith) is.0 is.1
written_sent Rests rules e out small now some is = absurd (cc)

-- where nothing is written no block is sent
pub none_sent : (t : Turn) (rules : Rules) (e : End) → false ≡ writes t → block_of t rules e ≡ None
none_sent Tells rules e is = absurd (cc)
none_sent Moves rules e is = absurd (cc)
none_sent Sends rules e is = absurd (cc)
none_sent Rests rules e is = refl

-- what is read does to an entity what the block does
pub wire_does : (rules : Rules) (d size : ℕ) (out : List ℕ) (e : Entity) (b : Block) → IsWire d out b → hears rules size (am_reading out) e ≡ all_handed (step rules size e (Come (pdu_in b)))
wire_does rules d size out e (Payload k poll body) is = ap (λ v. hears rules size v e) is.read ∙ ap (λ (x : Body). all_handed (step rules size e (Come (DataPdu (wrapped k) poll x None)))) is.same
wire_does rules d size out e (Mrw k n end_of_discard) is = ap (λ v. hears rules size v e) is
wire_does rules d size out e (Report t) is = ap (λ v. hears rules size v e) is
