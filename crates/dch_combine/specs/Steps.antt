-- What the steps of combining leave in the blocks of a TTI.
use Rattle.std.specs.Prelude.{◌≡◌, ◌<◌, ℕ, List, Option, Some, None, false, length, min, slice_index_or, IsSome}
use Rattle.dch_types.specs.declared.channel.Trch.{Trch}
use Rattle.dch_types.specs.declared.config.Config.{Config}
use Rattle.dch_accept.specs.Blocks.{Held, block_at}
use Rattle.dch_accept.specs.HeldSets.{HasFormat, held_at}
use Rattle.dch_combine.specs.declared.leg.LegBuffer.{LegBuffer}
use Rattle.dch_combine.specs.Combined.{IsCombinedBlock}
use Rattle.dch_combine.specs.Legs.{LegFrame}
use Rattle.dch_combine.specs.Opened.{AreLegsOf, AreSetCombiners}
use Rattle.dch_combine.specs.Values.{SetCombiner, frame_of, frames_in, leg_at, set_at}

-- the better one of two quality estimates, where both are there
abbrev pub better : Option ℕ → Option ℕ → Option ℕ
better (Some first) (Some second) = Some (min first second)
better (Some first) None = Some first
better None second = second

-- some leg has a frame
abbrev pub HaveFrame : (ℕ → Option LegFrame) → Type 0
HaveFrame legs = ¬ ((k : ℕ) → ¬ IsSome (legs k))

-- the receive buffers have blocks of channel i
abbrev pub HaveChannel : ℕ → List LegBuffer → Type 0
HaveChannel i legs = (k : ℕ) → k < length legs → i < length (leg_at legs k).blocks.blocks

-- they are in formats of the channel
abbrev pub HaveFormats : Trch → ℕ → List LegBuffer → Type 0
HaveFormats channel i legs = (k : ℕ) → k < length legs → HasFormat channel (held_at (leg_at legs k).blocks.blocks i)

-- blocks have the same format, as many blocks of the same size, and the same room
pub record IsSameShape (old new : Held) : Type 0 where
  pub format : new.format ≡ old.format
  pub size : new.size ≡ old.size
  pub count : length new.good ≡ length old.good
  pub long : length new.bits ≡ length old.bits
  pub room : new.room ≡ old.room

-- block b and its mark are as they were
pub record IsSameBlock (b : ℕ) (old new : Held) : Type 0 where
  pub bits : block_at new b ≡ block_at old b
  pub good : slice_index_or new.good b false ≡ slice_index_or old.good b false

-- the first blocks of channel i are combined
abbrev pub AreCombined : (ℕ → Option LegFrame) → ℕ → ℕ → ℕ → Held → Type 0
AreCombined legs i lead count new = (b : ℕ) → b < count → IsCombinedBlock legs i lead b new

-- the receive buffers have no frame any more, and their memory
pub record AreEmptied (count : ℕ) (old new : List LegBuffer) : Type 0 where
  pub all : length new ≡ length old
  pub empty : (k : ℕ) → k < count → frame_of (leg_at new k) ≡ None
  pub memory : (k : ℕ) → (leg_at new k).blocks ≡ (leg_at old k).blocks

-- receive buffers of a set that are new
pub record AreNewLegs (config : Config) (set count : ℕ) (legs : List LegBuffer) : Type 0 where
  pub all : length legs ≡ count
  pub empty : (k : ℕ) → frame_of (leg_at legs k) ≡ None
  pub opened : AreLegsOf config set legs

-- and those of the first sets
pub record AreNewSets (config : Config) (count sets : ℕ) (combiners : List SetCombiner) : Type 0 where
  pub empty : (s k : ℕ) → frames_in (set_at combiners s).legs k ≡ None
  pub opened : AreSetCombiners config count sets combiners
