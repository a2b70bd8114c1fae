-- The TTI of a channel as it is read from the kept radio frames: its format, and the blocks that the votes for its
-- coded bits give (TS 25.212 4.2.1 to 4.2.3, read backwards). A direction tells these votes.
use Rattle.std.specs.Prelude.{◌≡◌, ℕ, List, length, take}
use Rattle.dch_bits.specs.declared.bit.Bit.{Bit}
use Rattle.dch_bits.specs.declared.bit.Vote.{Vote}
use Rattle.dch_types.specs.declared.channel.Dir.{Dir}
use Rattle.dch_types.specs.declared.channel.Side.{Side}
use Rattle.dch_types.specs.Lengths.{tti_bits}
use Rattle.dch_types.specs.Parts.{channel_at, format_at, side_of}
use Rattle.dch_coding.specs.Ttis.{AreJoined}
use Rattle.dch_accept.specs.Blocks.{Held, bits_of}
use Rattle.dch_accept.specs.Plans.{Planned}
use Rattle.dch_tti.specs.Corrected.{AreCorrectable}
use Rattle.dch_tti.specs.Received.{IsReceived}
use Rattle.dch_tti.specs.Formats.{IsFormatOf}
use Rattle.dch_tti.specs.RxFrames.{RxFrames}

-- the coded bits of a TTI of channel i in format f
abbrev pub coded_in : Side → ℕ → ℕ → ℕ
coded_in side i f = tti_bits (channel_at side i) (format_at (channel_at side i) f)

-- the front of counted votes, as many as these bits are
abbrev pub votes_in : Side → ℕ → ℕ → List Vote → List Vote
votes_in side i f votes = take (coded_in side i f) votes

-- what is read of channel i
pub record IsTtiRead (planned : Planned) (dir : Dir) (AreVotes : RxFrames → ℕ → ℕ → List Vote → Type 0)
    (reader : RxFrames) (i : ℕ) (held : Held) : Type 0 where
  pub format : IsFormatOf (side_of planned.config dir) reader i held.format
  pub votes : List Vote
  pub long : length votes ≡ coded_in (side_of planned.config dir) i held.format
  pub are : AreVotes reader i held.format votes
  pub blocks : IsReceived (channel_at (side_of planned.config dir) i) held.format
      (format_at (channel_at (side_of planned.config dir) i) held.format) votes held

-- the votes are those for the coded bits of these blocks, and of each code block so few copies are lost that it is told
-- from others
pub record AreVotesOf (side : Side) (i f : ℕ) (blocks : List Bit) (votes : List Vote) : Type 0 where
  pub whole : length blocks ≡ bits_of (format_at (channel_at side i) f)
  pub joined : List Bit
  pub are : AreJoined (channel_at side i) (format_at (channel_at side i) f) blocks joined
  pub sent : ℕ → ℕ
  pub correctable : AreCorrectable (channel_at side i).coding sent votes joined
