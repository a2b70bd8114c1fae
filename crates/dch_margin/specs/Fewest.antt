-- The fewest cells that carry each coded bit of a TTI, and how many may be wrong if no more did.
use Rattle.std.specs.Prelude.{◌≡◌, ◌≤◌, ◌<◌, ℕ, List, length, slice_index_or, nat_lt, if◌then◌else◌}
use Rattle.dch_bits.specs.declared.bit.Vote.{Vote}
use Rattle.dch_types.specs.declared.channel.Side.{Side}
use Rattle.dch_types.specs.declared.config.Uplink.{Uplink}
use Rattle.dch_types.specs.Parts.{channel_at, format_number}
use Rattle.dch_trellis.specs.Search.{no_votes}
use Rattle.dch_collision.specs.Clear.{Copies}
use Rattle.dch_collision.specs.Copies.{bits_in, frame_copies}
use Rattle.dch_collision.specs.Sequences.{IsLegal}
use Rattle.dch_margin.specs.Differ.{DifferBelow, DifferInFormat, IsLeast, plan_in}

-- coded bit j of a TTI is carried by so many cells under some legal sequence
pub record IsCarriedIn (side : Side) (sent : Copies) (i f j cells : ℕ) : Type 0 where
  pub sequence : List ℕ
  pub legal : IsLegal side i f sequence
  pub is : sent i f sequence j ≡ cells

-- the least cells in which two blocks would differ if each coded bit were carried by as few cells as under any legal
-- sequence; under no legal sequence two blocks differ in fewer
pub record IsSureDistance (side : Side) (sent : Copies) (i f distance : ℕ) : Type 0 where
  pub fewest : ℕ → ℕ
  pub are : (j : ℕ) → j < bits_in side i f → IsLeast (IsCarriedIn side sent i f j) (fewest j)
  pub least : IsLeast (DifferBelow (channel_at side i).coding (plan_in side i f) fewest (plan_in side i f).blocks)
      distance
  pub sure : (other : ℕ) → DifferInFormat side sent i f other → distance ≤ other

-- coded bit m of radio frame n is carried by so many cells in some combination in which channel i has format f
pub record IsCarriedAt (uplink : Uplink) (i f n m cells : ℕ) : Type 0 where
  pub combination : ℕ
  pub there : combination < length uplink.side.combinations
  pub has : format_number uplink.side combination i ≡ f
  pub is : frame_copies uplink i n combination m ≡ cells

-- as the vote counts, and by fewer in none of the first combinations
pub record IsFewest (uplink : Uplink) (i f n combinations m : ℕ) (vote : Vote) : Type 0 where
  pub carried : IsCarriedAt uplink i f n m vote.zeros
  pub fewest : (c : ℕ) → c < combinations → format_number uplink.side c i ≡ f → vote.zeros ≤ frame_copies uplink i n c m
  pub ones : vote.ones ≡ 0
  pub few : vote.zeros ≤ 460800

abbrev pub AreFewest : Uplink → ℕ → ℕ → ℕ → ℕ → List Vote → Type 0
AreFewest uplink i f n combinations votes = (m : ℕ) → m < length votes →
    IsFewest uplink i f n combinations m (slice_index_or votes m no_votes)

-- the vote for fewer cells
abbrev pub fewer : Vote → Vote → Vote
fewer counted kept = if nat_lt counted.zeros kept.zeros then counted else kept
