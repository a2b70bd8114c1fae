-- What an end of a bearer writes (TS 25.322 9.2.1.4, 9.2.1.5, 9.2.2.11): a status of its receiver, an MRW or a data PDU
-- of its sender.
use Rattle.std.specs.Prelude.{◌≡◌, ◌+◌, ℕ, List, ◌∷◌, ◌++◌, map, Option, Some, None, Ok}
use Rattle.dch_rlcpdu.specs.declared.am.AmView.TheVariants.{Status}
use Rattle.dch_rlcpdu.specs.Am.{am_pdu, am_reading}
use Rattle.dch_rlcpdu.specs.Fields.{mrw_fields}
use Rattle.dch_rlcpdu.specs.Writing.{IsText, mrw_ack_text, mrw_text, status_text}
use Rattle.dch_am.specs.Bodies.{carried, indicators_of}
use Rattle.dch_am.specs.Building.{Choice, body_of_choice, choice, number_of, polls_at}
use Rattle.dch_am.specs.Numbers.{wrapped}
use Rattle.dch_am.specs.Rules.{Rules}
use Rattle.dch_am.specs.Sender.{Discard, Sender}
use Rattle.dch_am.specs.Status.{Told, OnlyAck, OnlyStatus, AckAndStatus, fields_of, wrapped_pair}

-- what is told, behind the half octet of the type
abbrev pub told_text : Told → List ℕ
told_text (OnlyAck a) = mrw_ack_text a.n (wrapped a.number)
told_text (OnlyStatus t) = status_text (map wrapped_pair t.pairs) (wrapped t.lsn)
told_text (AckAndStatus a t) = mrw_ack_text a.n (wrapped a.number)
    ++ status_text (map wrapped_pair t.pairs) (wrapped t.lsn)

-- something is told, and these octets are just that, with zeros behind it
abbrev pub IsTold : List ℕ → Option Told → Type 0
IsTold out None = ⊥
IsTold out (Some t) = IsText out (0 ∷ told_text t)

-- something is told, and the other end reads these octets as just that
abbrev pub IsHeard : List ℕ → Option Told → Type 0
IsHeard out None = ⊥
IsHeard out (Some t) = am_reading out ≡ Ok (Status (fields_of t))

-- these octets are a status: just what is told, and the other end reads that
pub record IsReport (out : List ℕ) (o : Option Told) : Type 0 where
  pub text : IsTold out o
  pub read : IsHeard out o

-- a discard runs, and these octets are just its MRW, which the other end reads
pub record IsMoved (out : List ℕ) (x : Discard) : Type 0 where
  pub text : IsText out (0 ∷ mrw_text (wrapped x.k) x.n)
  pub read : am_reading out ≡ Ok (Status (mrw_fields (wrapped x.k) x.n))

abbrev pub IsMrw : List ℕ → Option Discard → Type 0
IsMrw out None = ⊥
IsMrw out (Some x) = IsMoved out x

-- the next data PDU: its number in 12 bits, its poll bit, its indicators and its octets
abbrev pub pdu_of_choice : Rules → ℕ → Sender → Choice → List ℕ
pdu_of_choice rules d s c = am_pdu (wrapped (number_of c s)) (polls_at c rules d s)
    (indicators_of d (body_of_choice c d s)) (carried (body_of_choice c d s)) (d + 2)

abbrev pub next_pdu : Rules → ℕ → Sender → List ℕ
next_pdu rules d s = pdu_of_choice rules d s (choice rules s)
