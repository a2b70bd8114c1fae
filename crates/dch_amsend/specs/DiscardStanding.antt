-- When ages and discards stand for a sender over lists and numbers without wrap (TS 25.322 9.4).
use Rattle.std.specs.Prelude.{◌≡◌, ◌+◌, ◌-◌, ◌<◌, ◌≤◌, ℕ, length, take, min, slice_index}
use Rattle.dch_am.specs.Rules.{Rules}
use Rattle.dch_am.specs.Bodies.{ends}
use Rattle.dch_am.specs.Sender.{Sender, discarded, vt_a, held}
use Rattle.dch_amsend.specs.SduDiscard.{SduDiscard, age_at, capped}

-- how many SDUs are acknowledged with all PDUs before their ends
abbrev pub released : Sender → ℕ
released s = ends (take (vt_a s) s.bodies)

-- they stand for this sender. Ages are kept where SDUs are discarded by age
pub record DiscardStands (rules : Rules) (h : SduDiscard) (s : Sender) : Type 0 where
  pub count : length h.ages ≡ length (held s)
  pub ages : (i : ℕ) → i < length h.ages → 0 < rules.discard_age → age_at h i
      ≡ min 65535 (s.ticks - slice_index s.accepted_at (released s + i))
  pub early : (i : ℕ) → slice_index s.accepted_at i ≤ s.ticks
  pub times : length s.accepted_at ≡ length s.accepted
  pub passed : h.passed ≡ s.dropped - released s
  pub discarded : h.discarded ≡ capped (discarded s)

-- so many more SDUs are released
pub record AreReleased (sdus : ℕ) (s now : Sender) : Type 0 where
  pub accepted : now.accepted ≡ s.accepted
  pub accepted_at : now.accepted_at ≡ s.accepted_at
  pub ticks : now.ticks ≡ s.ticks
  pub dropped : now.dropped ≡ s.dropped
  pub discard_count : discarded now ≡ discarded s
  pub low : released now ≡ released s + sdus

-- one tick has come
pub record IsTicked (s now : Sender) : Type 0 where
  pub accepted : now.accepted ≡ s.accepted
  pub accepted_at : now.accepted_at ≡ s.accepted_at
  pub ticks : now.ticks ≡ s.ticks + 1
  pub dropped : now.dropped ≡ s.dropped
  pub discard_count : discarded now ≡ discarded s
  pub low : released now ≡ released s

-- no_sdu_held changed of which ages and discards tell
pub record HasSameSdus (s now : Sender) : Type 0 where
  pub accepted : now.accepted ≡ s.accepted
  pub accepted_at : now.accepted_at ≡ s.accepted_at
  pub ticks : now.ticks ≡ s.ticks
  pub dropped : now.dropped ≡ s.dropped
  pub discard_count : discarded now ≡ discarded s
  pub low : released now ≡ released s
