-- How the frames of the legs become one frame in soft handover: channel by channel, and there block by block, by the
-- marks of the blocks.
use Rattle.std.specs.Prelude.{◌≡◌, ◌<◌, ◌≤◌, ◌⊎◌, ℕ, List, Option, Some, IsSome, true, false, length, slice_index, slice_index_or}
use Rattle.dch_types.specs.declared.channel.Dir.TheVariants.{Up}
use Rattle.dch_types.specs.declared.config.Config.{Config}
use Rattle.dch_accept.specs.Blocks.{Held, block_at}
use Rattle.dch_accept.specs.HeldSets.{HeldSet, held_at}
use Rattle.dch_iub.specs.Forms.{IsWrittenForm}
use Rattle.dch_iub.specs.Shape.{ForSet}
use Rattle.dch_combine.specs.Legs.{LegFrame, blocks_in}

-- k is the lowest number of which a fact holds
pub record IsLowest (P : ℕ → Type 0) (k : ℕ) : Type 0 where
  pub holds : P k
  pub lowest : (j : ℕ) → j < k → ¬ P j

-- block b of a TTI is there and good
abbrev pub IsGoodBlock : Held → ℕ → Type 0
IsGoodBlock held b = slice_index_or held.good b false ≡ true

-- some block of a TTI is good
pub record HasGood (held : Held) : Type 0 where
  pub block : ℕ
  pub is_good : IsGoodBlock held block

-- no leg has a good block in channel i, and leg k is the lowest with a frame
pub record IsLowestFrame (legs : ℕ → Option LegFrame) (i k : ℕ) : Type 0 where
  pub none : (j : ℕ) → ¬ HasGood (blocks_in (legs j) i)
  pub frame : IsLowest (λ j. IsSome (legs j)) k

-- the leading leg in channel i: the lowest with a good block there, or else the lowest with a frame
abbrev pub IsLeading : (ℕ → Option LegFrame) → ℕ → ℕ → Type 0
IsLeading legs i k = IsLowest (λ j. HasGood (blocks_in (legs j) i)) k ⊎ IsLowestFrame legs i k

-- a TTI in this format has a good block b
pub record HasGoodBlock (held : Held) (format b : ℕ) : Type 0 where
  pub same : held.format ≡ format
  pub is_good : IsGoodBlock held b

-- block b is good, and that of the lowest leg of this format whose block b is good
pub record IsGoodOne (legs : ℕ → Option LegFrame) (i b : ℕ) (new : Held) : Type 0 where
  pub leg : ℕ
  pub lowest : IsLowest (λ k. HasGoodBlock (blocks_in (legs k) i) new.format b) leg
  pub bits : block_at new b ≡ block_at (blocks_in (legs leg) i) b
  pub good : IsGoodBlock new b

-- there is none, and block b is bad, and that of the leading leg
pub record IsBadOne (legs : ℕ → Option LegFrame) (i lead b : ℕ) (new : Held) : Type 0 where
  pub none : (k : ℕ) → ¬ HasGoodBlock (blocks_in (legs k) i) new.format b
  pub bits : block_at new b ≡ block_at (blocks_in (legs lead) i) b
  pub bad : slice_index_or new.good b false ≡ false

abbrev pub IsCombinedBlock : (ℕ → Option LegFrame) → ℕ → ℕ → ℕ → Held → Type 0
IsCombinedBlock legs i lead b new = IsGoodOne legs i b new ⊎ IsBadOne legs i lead b new

-- the combined blocks of channel i: their format, which says how many they are and of which size, is that of the
-- leading leg
pub record IsCombinedTti (legs : ℕ → Option LegFrame) (i : ℕ) (new : Held) : Type 0 where
  pub lead : ℕ
  pub leading : IsLeading legs i lead
  pub format : new.format ≡ (blocks_in (legs lead) i).format
  pub blocks : (b : ℕ) → b < length new.good → IsCombinedBlock legs i lead b new

-- the best quality estimate of the frames, which is the least
pub record IsBest (legs : ℕ → Option LegFrame) (qe : ℕ) : Type 0 where
  pub leg : ℕ
  pub frame : LegFrame
  pub is : legs leg ≡ Some frame
  pub reached : frame.qe ≡ qe
  pub least : (k : ℕ) (other : LegFrame) → legs k ≡ Some other → qe ≤ other.qe

-- the combined frame of a set: the Iub frame that is written of the combined blocks, their marks, the best quality
-- estimate and a CFN
pub record IsCombinedFrame (config : Config) (set : ℕ) (legs : ℕ → Option LegFrame) (cfn : ℕ)
    (frame : List ℕ) : Type 0 where
  pub held : HeldSet
  pub qe : ℕ
  pub channels : ForSet config.uplink.side set (λ i. IsCombinedTti legs i (held_at held.blocks i))
  pub best : IsBest legs qe
  pub octets : (k : ℕ) → k < length frame → slice_index frame k < 256
  pub written : IsWrittenForm config Up set frame cfn qe held
