-- Layer 2 of an end at opening.
use Rattle.std.specs.Prelude.{◌≡◌, ◌<◌, ℕ, List, [], ◌==◌, if◌then◌else◌, length, map}
use Rattle.std.specs.List.{range_with_len}
use Rattle.dch_bits.specs.declared.bit.Bit.{Bit}
use Rattle.dch_types.specs.declared.channel.Dir.{Dir}
use Rattle.dch_types.specs.declared.config.Config.{Config}
use Rattle.dch_types.specs.Limits.{idle_format}
use Rattle.dch_types.specs.Parts.{channel_at, side_of}
use Rattle.dch_accept.specs.Blocks.{Held, HoldsTtis, block_at}
use Rattle.dch_accept.specs.HeldSets.{HasFormat, held_at}
use Rattle.dch_layer2.specs.Bearings.{opened_bearing}
use Rattle.dch_layer2.specs.Layers.{Given}
use Rattle.dch_layer2.specs.BearerStanding.{Represents as StandsFor}
use Rattle.dch_layer2.specs.declared.bearer.Bearer.{Bearer}
use Rattle.dch_layer2.specs.Values.{entity_at}

-- the first bearers are as they are opened
pub record AreOpened (config : Config) (out into : Dir) (count : ℕ) (bearers : List Bearer) : Type 0 where
  pub all : length bearers ≡ count
  pub each : (b : ℕ) → b < count → StandsFor config out into b (opened_bearing config out b) (entity_at bearers b)

-- the blocks of a TTI, one by one, but for those without bits
abbrev pub blocks_in : Held → List (List Bit)
blocks_in held = if held.size == 0 then [] else map (block_at held) (range_with_len 0 (length held.good))

-- what a channel was given for its running TTI, in memory for any TTI of its direction
pub record IsGiven (config : Config) (out : Dir) (i : ℕ) (given : Given) (held : Held) : Type 0 where
  pub number : held.format ≡ given.format
  pub blocks : blocks_in held ≡ given.blocks
  pub format : HasFormat (channel_at (side_of config out) i) held
  pub room : HoldsTtis (side_of config out) held.room

-- nothing at opening: a channel runs its idle format
abbrev pub idle_given : Config → Dir → ℕ → Given
idle_given config out i = record { format = idle_format (channel_at (side_of config out) i); blocks = [] }

abbrev pub IsIdle : Config → Dir → ℕ → Held → Type 0
IsIdle config out i held = IsGiven config out i (idle_given config out i) held

pub record AreIdle (config : Config) (out : Dir) (count : ℕ) (given : List Held) : Type 0 where
  pub all : length given ≡ count
  pub each : (i : ℕ) → i < count → IsIdle config out i (held_at given i)
