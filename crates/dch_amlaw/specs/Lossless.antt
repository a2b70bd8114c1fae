-- Histories in which no block is lost: what was sent before the blocks that are still in flight has been handed up.
use Rattle.std.specs.Prelude.{◌≡◌, ◌+◌, ◌≤◌, ◌<◌, ℕ, List, [], ◌∷◌, Bool, true, false, max, take}
use Rattle.dch_am.specs.Bodies.{ends}
use Rattle.dch_am.specs.Sender.{vt_s}
use Rattle.dch_amlaw.specs.Pair.{Arrive, At, Block, Build, End, Event, Far, Lose, Mrw, Near, Offer, Pair, Payload, Report, Tick, gap_free}

-- a block is lost, at the near end and at either
abbrev pub is_loss_event : Event → Bool
is_loss_event (Offer unit) = false
is_loss_event Build = false
is_loss_event Arrive = false
is_loss_event Lose = true
is_loss_event Tick = false

abbrev pub is_loss : At → Bool
is_loss (Near e) = is_loss_event e
is_loss (Far e) = is_loss_event e

-- no event of a history is a loss
abbrev pub NoneLost : List At → Type 0
NoneLost [] = Unit {0}
NoneLost (e ∷ es) = (is_loss e ≡ false) × NoneLost es

-- the new PDUs of a line are numbered from one number on up to another, and all that is repeated stands behind its
-- first time
abbrev pub Continues : ℕ → List Block → ℕ → Type 0
Continues g [] n = g ≡ n
Continues g (Payload k poll body ∷ line) n = (k ≤ g) × Continues (max g (k + 1)) line n
Continues g (Mrw k place end_of_discard ∷ line) n = (k < g) × Continues g line n
Continues g (Report t ∷ line) n = Continues g line n

-- the PDUs that have arrived are those below a number; those from it on are in flight; handed up are the accepted
-- units, in order, whose length indicator lies in the PDUs that arrived
pub record IsWhole (from to : End) (line : List Block) : Type 0 where
  pub numbers : Continues (gap_free to) line (vt_s from.entity.sender)
  pub units : to.entity.receiver.reading.units
      ≡ take (ends (take (gap_free to) from.entity.sender.bodies)) from.entity.sender.accepted

-- in both directions: the PDUs that have arrived are those below a number, those from it on are in flight, and
-- delivered are the accepted SDUs, in order, whose length indicator lies in the PDUs that arrived
pub record AreWhole (p : Pair) : Type 0 where
  pub near_far : IsWhole p.near p.far p.out
  pub far_near : IsWhole p.far p.near p.back
