-- Votes that tell how many cells carry each coded bit.
use Rattle.std.specs.Prelude.{◌≡◌, ◌<◌, ◌≤◌, ℕ, List, length, slice_index_or}
use Rattle.dch_bits.specs.declared.bit.Vote.{Vote}
use Rattle.dch_trellis.specs.Search.{no_votes}

-- so many votes for Zero and none for One; no bit of a TTI is carried by more cells than all its radio frames have
pub record IsCount (n : ℕ) (vote : Vote) : Type 0 where
  pub zeros : vote.zeros ≡ n
  pub ones : vote.ones ≡ 0
  pub few : n ≤ 460800

-- each vote counts the cells of its bit
abbrev pub AreCounts : (ℕ → ℕ) → List Vote → Type 0
AreCounts sent votes = (j : ℕ) → j < length votes → IsCount (sent j) (slice_index_or votes j no_votes)
