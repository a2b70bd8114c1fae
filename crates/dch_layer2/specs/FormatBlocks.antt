-- Blocks as they come.
use Rattle.std.specs.Prelude.{◌≡◌, ◌<◌, ◌≤◌, ℕ, List, length}
use Rattle.std.specs.List.{All}
use Rattle.dch_bits.specs.declared.bit.Bit.{Bit}
use Rattle.dch_types.specs.declared.channel.Dir.{Dir}
use Rattle.dch_types.specs.declared.config.Config.{Config}
use Rattle.dch_types.specs.Parts.{channel_at, format_at, side_of}
use Rattle.dch_layer2.specs.Layers.{Came}

-- these bits are a block of some format of a channel
pub record IsBlock (config : Config) (into : Dir) (channel : ℕ) (bits : List Bit) : Type 0 where
  pub format : ℕ
  pub there : format < length (channel_at (side_of config into) channel).formats
  pub some : 1 ≤ (format_at (channel_at (side_of config into) channel) format).number
  pub size : length bits ≡ (format_at (channel_at (side_of config into) channel) format).size

-- and all that came are
abbrev pub AreBlocks : Config → Dir → ℕ → List Came → Type 0
AreBlocks config into channel came = All (λ (x : Came). IsBlock config into channel x.bits) came
