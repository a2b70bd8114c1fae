-- The PDUs of two ends are those of the list of PDUs of their units (TS 25.322 9.2.2.8), built and in flight.
use Rattle.std.specs.Prelude.{◌-◌, ◌<◌, ℕ, List, [], ◌∷◌}
use Rattle.dch_am.specs.Bodies.{joined}
use Rattle.dch_am.specs.Listed.{IsBody, IsListed, listed_pdu}
use Rattle.dch_am.specs.Sender.{Sender, vt_s}
use Rattle.dch_amlaw.specs.Pair.{Block, End, Mrw, Pair, Payload, Report}

-- each data PDU in flight was built, and is the PDU of its number in the sender's list
abbrev pub AreListed : ℕ → Sender → List Block → Type 0
AreListed d s [] = Unit {0}
AreListed d s (Payload k poll body ∷ line) =
    (k < vt_s s) × IsBody d (joined s.accepted) (listed_pdu d s k) body × AreListed d s line
AreListed d s (Mrw k n end_of_discard ∷ line) = AreListed d s line
AreListed d s (Report t ∷ line) = AreListed d s line

-- so it is of one direction: of its sender and its line
pub record IsListedLine (from : End) (line : List Block) : Type 0 where
  pub built : IsListed (from.octets - 2) from.entity.sender
  pub in_flight : AreListed (from.octets - 2) from.entity.sender line

-- in both directions the PDUs that were built, and the data PDUs in flight, are those of the list of PDUs of the
-- sender's SDUs
pub record IsListedPair (p : Pair) : Type 0 where
  pub near_far : IsListedLine p.near p.out
  pub far_near : IsListedLine p.far p.back
