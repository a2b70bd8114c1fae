-- What holds of two ends that can be reset, after every history.
use Rattle.std.specs.Prelude.{◌+◌, ◌-◌, ◌<◌, ◌≤◌, ◌≡◌, ◌⊎◌, ℕ, List, [], ◌∷◌, ◌++◌, ◌&&◌, length, take, ◌==◌, not, is_some, None, Bool, true, false, if◌then◌else◌}
use Rattle.dch_am.specs.Bodies.{ends}
use Rattle.dch_am.specs.Numbers.{has}
use Rattle.dch_am.specs.Restart.{begun}
use Rattle.dch_am.specs.Rules.{Rules}
use Rattle.dch_am.specs.Sender.{Sender, opened_sender}
use Rattle.dch_amlaw.specs.Pair.{answers_outside as block_outside, in_span, picked}
use Rattle.dch_reset.specs.Ends.{Sent, Data, ResetPdu, ResetAckPdu, Stretch, ResetEnd, ResetPair, present}

-- the answer to a block is Outside: an end that isn't pending answers it so in its stretch
abbrev pub answers_outside : Rules → ResetEnd → Sent → Bool
answers_outside rules e (Data label block) = not (is_some e.pending) && block_outside rules e.sides block
answers_outside rules e (ResetPdu rsn hfni) = false
answers_outside rules e (ResetAckPdu rsn hfni) = false

-- the next block to arrive is answered Outside
abbrev pub front_outside : Rules → ResetEnd → List Sent → Bool
front_outside rules e [] = false
front_outside rules e (s ∷ line) = answers_outside rules e s

-- the sender of an end as it last was with so many restarts. That of the list's last is 0
abbrev pub at_label : List Sender → ℕ → Sender
at_label [] label = opened_sender
at_label (s ∷ ss) label = if label == length ss then s else at_label ss label

abbrev pub sender_at : ResetEnd → ℕ → Sender
sender_at e label = at_label (e.sides.entity.sender ∷ e.senders) label

-- all of these are this number
abbrev pub AllAre : ℕ → List ℕ → Type 0
AllAre n [] = Unit {0}
AllAre n (x ∷ xs) = (x ≡ n) × AllAre n xs

-- each unit of a sender with its length indicator below a number is handed up, by these spans, or it was discarded
abbrev pub NoneMissing : Sender → List (ℕ × ℕ) → ℕ → Type 0
NoneMissing s spans missing = (i : ℕ) → i < ends (take missing s.bodies) → (in_span s.bodies spans i ≡ true)
    ⊎ (has i s.discarded_units ≡ true)

-- a stretch is one of this label: all that it took carries the label; handed up are, in order, the units of the label
-- that were picked; and each of these units whose length indicator lies below the missing number was handed up or
-- discarded
pub record IsStretch (from : ResetEnd) (label : ℕ) (s : Stretch) : Type 0 where
  pub one_label : AllAre label s.labels
  pub in_order : s.units ≡ picked (sender_at from label).bodies s.spans 0 (sender_at from label).accepted
  pub none_lost : NoneMissing (sender_at from label) s.spans s.missing

-- the first stretch of an end is of label 0, the next one of label 1, and so on
abbrev pub AreStretches : ResetEnd → List Stretch → Type 0
AreStretches from [] = Unit {0}
AreStretches from (s ∷ ss) = IsStretch from (length ss) s × AreStretches from ss

-- all units that an end handed up in finished stretches, and in all
abbrev pub handed_in : List Stretch → List (List ℕ)
handed_in [] = []
handed_in (s ∷ ss) = handed_in ss ++ s.units

abbrev pub handed : ResetEnd → List (List ℕ)
handed e = handed_in e.stretches ++ e.sides.entity.receiver.reading.units

-- the units of which an octet was built before a restart of their sender, in order
abbrev pub begun_before : List Sender → List (List ℕ)
begun_before [] = []
begun_before (s ∷ ss) = begun_before ss ++ take (begun s) s.accepted

-- the units whose place is one of these. The first of them has place i
abbrev pub those : (ℕ → Bool) → ℕ → List (List ℕ) → List (List ℕ)
those at i [] = []
those at i (u ∷ us) = if at i then (u ∷ those at (i + 1) us) else those at (i + 1) us

-- the unit at this place had an octet built before a restart of its sender, or was discarded
abbrev pub IsDropped : ResetEnd → ℕ → Type 0
IsDropped from i = (i < length (begun_before from.senders))
    ⊎ (has (i - length (begun_before from.senders)) from.sides.entity.sender.discarded_units ≡ true)

-- handed up over all stretches are, in order and each at most once, the accepted units at some places. A unit before
-- one of these that isn't among them was dropped
pub record IsInOrder (from to : ResetEnd) : Type 0 where
  pub accepted : from.accepted ≡ begun_before from.senders ++ from.sides.entity.sender.accepted
  pub at : ℕ → Bool
  pub units : handed to ≡ those at 0 from.accepted
  pub passed : (i j : ℕ) → i < j → at j ≡ true → at i ≡ false → IsDropped from i

-- what holds of one direction
pub record IsDelivered (from to : ResetEnd) : Type 0 where
  pub stretches : AreStretches from (present to ∷ to.stretches)
  pub in_all : IsInOrder from to

-- an end has as many finished stretches and earlier senders as restarts
pub record IsCounted (e : ResetEnd) : Type 0 where
  pub stretches : length e.stretches ≡ e.restarts
  pub senders : length e.senders ≡ e.restarts

-- no end is more than one restart ahead of the other, and where none is pending both have restarted equally often
pub record AreLevel (a b : ResetEnd) : Type 0 where
  pub first_le : a.restarts ≤ b.restarts + 1
  pub second_le : b.restarts ≤ a.restarts + 1
  pub same : a.pending ≡ None → b.pending ≡ None → a.restarts ≡ b.restarts

pub record IsSafe (rules : Rules) (p : ResetPair) : Type 0 where
  pub near_far : IsDelivered p.near p.far
  pub far_near : IsDelivered p.far p.near
  pub near_counted : IsCounted p.near
  pub far_counted : IsCounted p.far
  pub level : AreLevel p.near p.far
  pub near_inside : front_outside rules p.near p.back ≡ false
  pub far_inside : front_outside rules p.far p.out ≡ false

-- each has at most 1,500 octets
abbrev pub AreShort : List (List ℕ) → Type 0
AreShort [] = Unit {0}
AreShort (u ∷ us) = (length u ≤ 1500) × AreShort us
