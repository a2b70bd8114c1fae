-- The SDUs that are kept, and the PDUs in flight, stand for a sender over lists and numbers without wrap (TS 25.322
-- 9.4).
use Rattle.std.specs.Prelude.{◌≡◌, ◌+◌, ◌%◌, ◌≤◌, ℕ, zero, suc, false, not, take, if◌then◌else◌}
use Rattle.dch_am.specs.Bodies.{Body, TxQueue, after_body, ends, ends_of, is_empty, is_left}
use Rattle.dch_am.specs.Building.{body_at}
use Rattle.dch_am.specs.Sender.{Sender, held}
use Rattle.dch_am.specs.Short.{IsShort}
use Rattle.dch_txbuf.specs.declared.taken.Start.{Start}
use Rattle.dch_txbuf.specs.Cuts.{IsStart, IsThere, body_of, has_padding, left_at}
use Rattle.dch_retx.specs.declared.sent_pdu.Extent.{Extent}
use Rattle.dch_retx.specs.declared.sent_pdu.SentPdu.{SentPdu}
use Rattle.dch_retx.specs.Flights.{continues_in, ends_in}
use Rattle.dch_amsend.specs.DiscardStanding.{released}
use Rattle.dch_amsend.specs.TxBuffer.{TxBuffer, taken_by, unsent_of}

-- what is kept stands for this sender, whose PDUs have d octets behind the header
pub record BufferStands (d : ℕ) (w : TxBuffer) (s : Sender) : Type 0 where
  pub size : w.size ≡ d + 2
  pub from : 1 ≤ d
  pub start : IsStart w.sdus w.start
  pub sdus : w.sdus ≡ held s
  pub freed : w.freed ≡ released s % 65536
  pub unsent : unsent_of w ≡ s.unsent
  pub place : released s + w.start.sdu ≡ ends s.bodies + (if w.owed then 1 else 0)
  pub small : w.start.sdu ≤ 65535

-- a PDU in flight has this body
pub record HasBody (d : ℕ) (f : SentPdu) (b : Body) : Type 0 where
  pub full : f.full ≡ b.full
  pub ends : ends_in f ≡ ends_of b
  pub continues : continues_in f ≡ not (is_empty b.rest)
  pub short : IsShort d b
  pub padded : f.padded ≡ has_padding d b

-- the first accepted SDU of which PDU k has octets, or the one behind all
abbrev pub first_in : Sender → ℕ → ℕ
first_in s k = ends (take k s.bodies) + (if (body_at s.bodies k).full then 1 else 0)

abbrev pub start_of : Sender → ℕ → Extent → Start
start_of s k x = record { sdu = first_in s k; used = x.used }

-- PDU k takes this of the accepted SDUs, whether padding is behind or not
pub record Takes (s : Sender) (k : ℕ) (x : Extent) : Type 0 where
  pub sdu : x.sdu ≡ first_in s k % 65536
  pub start : IsStart s.accepted (start_of s k x)
  pub there : IsThere (taken_by x false) (left_at (start_of s k x) s.accepted)
  pub body : body_of (body_at s.bodies k).full (taken_by x false) (left_at (start_of s k x) s.accepted)
      ≡ body_at s.bodies k

-- how many PDUs could be filled one after another, at most so many
unfoldable pub fills : ℕ → ℕ → TxQueue → ℕ
fills zero d q = 0
fills (suc most) d q = if is_left q then suc (fills most d (after_body d q)) else 0
