-- What a receiver of the acknowledged mode holds is limited (TS 25.322 11.3.3): each PDU that came had at most 126
-- octets, and none lies beyond the window.
use Rattle.std.specs.Prelude.{◌+◌, ◌≤◌, ℕ, List, [], ◌∷◌, length}
use Rattle.std.specs.List.{All}
use Rattle.dch_am.specs.Bodies.{Body}
use Rattle.dch_am.specs.Entities.{one_if}
use Rattle.dch_am.specs.Numbers.{top}
use Rattle.dch_am.specs.Receiver.{Receiver, vr_r, numbers}

-- the octets of a PDU behind its header of two octets: those of its pieces, each with its length indicator, and those
-- of its rest; and the indicator that tells of the PDU before
abbrev pub pieces_octets : List (List ℕ) → ℕ
pieces_octets [] = 0
pieces_octets (p ∷ ps) = length p + 1 + pieces_octets ps

abbrev pub body_octets : Body → ℕ
body_octets b = one_if b.full + pieces_octets b.pieces + length b.rest

-- a PDU with its number, of 126 octets at most
abbrev pub IsLight : ℕ × Body → Type 0
IsLight p = body_octets p.1 ≤ 124

-- every PDU that a receiver keeps has at most 126 octets, and none is beyond its window
pub record IsBoundedReceiver (window : ℕ) (r : Receiver) : Type 0 where
  pub light : All IsLight r.arrived
  pub inside : top (numbers r.arrived) ≤ vr_r r + window
