-- Blocks that come to layer 2 of an end.
use Rattle.std.specs.Prelude.{◌≡◌, ◌<◌, ◌≤◌, ◌++◌, ℕ, zero, suc, List, [], ◌∷◌, false, length, slice_index_or}
use Rattle.dch_types.specs.declared.channel.Dir.{Dir}
use Rattle.dch_types.specs.declared.config.Config.{Config}
use Rattle.dch_types.specs.Parts.{channel_at, format_at, side_of}
use Rattle.dch_accept.specs.Blocks.{Held, block_at}
use Rattle.dch_indication.specs.Lines.{Line}
use Rattle.dch_indication.specs.Told.{Told}
use Rattle.dch_layer2.specs.Layers.{Came, Layer, takes}
use Rattle.dch_layer2.specs.Standing.{IsSameEnd, Represents}
use Rattle.dch_layer2.specs.Values.{LayerRunning}

-- so many bits are a block of some format of a channel
pub record IsBlockSize (config : Config) (into : Dir) (channel bits : ℕ) : Type 0 where
  pub format : ℕ
  pub there : format < length (channel_at (side_of config into) channel).formats
  pub some : 1 ≤ (format_at (channel_at (side_of config into) channel) format).number
  pub size : bits ≡ (format_at (channel_at (side_of config into) channel) format).size

-- block k of a TTI as it came, and the first blocks
abbrev pub came_at : Held → ℕ → Came
came_at held k = record { bits = block_at held k; good = slice_index_or held.good k false }

abbrev pub came_below : Held → ℕ → List Came
came_below held zero = []
came_below held (suc k) = came_below held k ++ came_at held k ∷ []

-- all blocks of a TTI as they came, in order
abbrev pub came_of : Held → List Came
came_of held = came_below held (length held.good)

-- the first blocks were taken
pub record AreTaken {S : Type 0} (shows : S → Line → S → Type 0) (config : Config) (channel k : ℕ) (held : Held)
    (old now : LayerRunning) (before after : S) : Type 0 where
  pub ends : IsSameEnd old now
  pub stands : (layer : Layer) → Represents config layer old
      → Represents config (takes config old.into channel 0 (came_below held k) layer).layer now
  pub told : (layer : Layer) → Represents config layer old
      → Told shows before (takes config old.into channel 0 (came_below held k) layer).lines after
