-- When two ends that run, with the blocks between them, stand for a pair of ends that can be reset (TS 25.322 11.4).
use Rattle.std.specs.Prelude.{◌≡◌, ◌≤◌, ℕ, List, length, All, Option, Some, None, Ok}
use Rattle.std.specs.List.{AllZip}
use Rattle.dch_am.specs.Entities.{pdu_of}
use Rattle.dch_am.specs.Rules.{Rules}
use Rattle.dch_pair.specs.Standing.{whole}
use Rattle.dch_rlcpdu.specs.Am.{am_reading}
use Rattle.dch_rlcpdu.specs.declared.am.AmView.{AmView}
use Rattle.dch_reset.specs.History.{IsAllHanded, pdu_sent, state_of}
use Rattle.dch_reset.specs.Standing.{Represents, Running as RunningEnd, size_in as octets_in, size_of as octets_of}
use Rattle.dch_reset.specs.Ends.{ResetEnd, ResetPair, Sent}
use Rattle.dch_reset.specs.Law.{handed}

-- an end, how many units it has accepted, and those that it has handed up
pub record Peer : Type 0 where
  pub end : RunningEnd
  pub accepted : ℕ
  pub units : List (List ℕ)

-- the octets of the PDUs that it builds, and of those that come
abbrev pub size_of : Peer → ℕ
size_of v = octets_of v.end

abbrev pub size_in : Peer → ℕ
size_in v = octets_in v.end

-- the sizes of PDUs stay
pub record AreSame (a b : Peer) : Type 0 where
  pub out : size_of b ≡ size_of a
  pub in_ : size_in b ≡ size_in a

-- it stands for this end of a history, which has handed up all units
pub record IsPeer (rules : Rules) (v : Peer) (e : ResetEnd) : Type 0 where
  pub end : Represents rules v.end (state_of e)
  pub size : size_of v ≡ e.sides.octets
  pub least : 6 ≤ e.sides.octets
  pub most : e.sides.octets ≤ 126
  pub all_handed : IsAllHanded (state_of e)
  pub accepted : v.accepted ≡ length e.accepted
  pub units : v.units ≡ whole (handed e)

-- these octets read as what is in flight
pub record IsRead (out : List ℕ) (s : Sent) : Type 0 where
  pub view : AmView
  pub reads : am_reading out ≡ Ok view
  pub is : pdu_of view ≡ pdu_sent s

abbrev pub IsSent : List ℕ → Option Sent → Type 0
IsSent out None = ⊥
IsSent out (Some s) = IsRead out s

-- each of these blocks does so, in order
abbrev pub AreRead : List (List ℕ) → List Sent → Type 0
AreRead blocks line = AllZip IsRead blocks line

-- blocks have at most so many octets
abbrev pub Fit : ℕ → List (List ℕ) → Type 0
Fit size blocks = All (λ b. length b ≤ size) blocks

-- they stand for this pair, with these blocks in flight from the near end and to it
pub record AreRunning (rules : Rules) (one other : Peer) (sent came : List (List ℕ)) (p : ResetPair) : Type 0 where
  pub near : IsPeer rules one p.near
  pub far : IsPeer rules other p.far
  pub out : AreRead sent p.out
  pub back : AreRead came p.back

-- the two ends, and the blocks in flight to each
pub record Running : Type 0 where
  pub first : Peer
  pub second : Peer
  pub to_first : List (List ℕ)
  pub to_second : List (List ℕ)
