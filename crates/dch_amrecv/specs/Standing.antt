-- When what a running receiver holds stands for all that came to it (TS 25.322 9.4).
use Rattle.std.specs.Prelude.{◌≡◌, ◌+◌, ◌≤◌, ℕ, zero, suc, List, [], ◌∷◌, Bool, true, false, length, map, drop, take, Option, Some, None, ◌==◌, if◌then◌else◌}
use Rattle.dch_rlcpdu.specs.declared.handed.Handed.{Handed}
use Rattle.dch_am.specs.Bodies.{Body, Reading}
use Rattle.dch_am.specs.Numbers.{has, wrapped}
use Rattle.dch_am.specs.Status.{MrwAck, Told, fields_of}
use Rattle.dch_am.specs.Receiver.{Receiver, vr_h, body_of, vr_r, got}
use Rattle.dch_rlcpdu.specs.Fields.{Field}
use Rattle.dch_sar.specs.Taking.{Waiting}
use Rattle.dch_amrecv.specs.Holding.{Holding}

-- the place i, none behind the last
abbrev pub place : List (Option Body) → ℕ → Option Body
place [] i = None
place (p ∷ ps) zero = p
place (p ∷ ps) (suc i) = place ps i

-- what stands at a number that has come, and at one that has not
abbrev pub came : Bool → Body → Option Body
came true b = Some b
came false b = None

-- the trim of the expected PDU
abbrev pub live : ℕ → Option (ℕ × ℕ) → Option ℕ
live next None = None
live next (Some t) = if t.0 == next then Some t.1 else None

-- an MRW_ACK in 12 bits
abbrev pub sent_ack : Option MrwAck → Option (ℕ × ℕ)
sent_ack None = None
sent_ack (Some a) = Some (wrapped a.number, a.n)

-- a trim is not ahead of a number
abbrev pub IsPast : ℕ → Option (ℕ × ℕ) → Type 0
IsPast next None = Unit {0}
IsPast next (Some t) = t.0 ≤ next

-- of each unit no more than 1,501 octets are kept; so many were handed up before
pub record AreUnits (given : ℕ) (u : Waiting) (r : Reading) : Type 0 where
  pub waiting : u.waiting ≡ map (take 1501) (drop given r.units)
  pub part : u.part ≡ take 1501 r.part
  pub within : given ≤ length r.units

-- what is held stands for this receiver, of whose units so many were handed up
pub record Stands (h : Holding) (given : ℕ) (r : Receiver) : Type 0 where
  pub next : h.next ≡ wrapped (vr_r r)
  pub highest : vr_h r ≡ vr_r r + length h.kept.places
  pub places : (i : ℕ) → place h.kept.places i ≡ came (has (vr_r r + i) (got r)) (body_of r.arrived (vr_r r + i))
  pub passed : r.passed ≤ vr_r r
  pub trim : h.kept.trim ≡ live (vr_r r) r.trim
  pub past : IsPast (vr_r r) r.trim
  pub units : AreUnits given h.kept.units r.reading
  pub ack : h.ack ≡ sent_ack r.ack
  pub owed : h.owed ≡ r.owed
  pub status_prohibit_timer : h.status_prohibit_timer ≡ r.status_prohibit_timer
  pub period : h.period ≡ r.period

-- how many units were handed up after an answer
abbrev pub given_after : Option Handed → ℕ → ℕ
given_after None given = given
given_after (Some answer) given = given + 1

-- what is told, as the fields of a status
abbrev pub said : Option Told → Option (List Field)
said None = None
said (Some t) = Some (fields_of t)

-- the rules and the sizes of PDUs stay
pub record IsSame (a b : Holding) : Type 0 where
  pub rules : b.rules ≡ a.rules
  pub pdu : b.pdu ≡ a.pdu
  pub reply : b.reply ≡ a.reply
