-- Layer 2 whose bearers are limited, and what it does with what a node reads.
use Rattle.std.specs.Prelude.{◌<◌, ℕ}
use Rattle.dch_types.specs.declared.channel.Dir.{Dir}
use Rattle.dch_types.specs.declared.config.Config.{Config}
use Rattle.dch_types.specs.Parts.{channel_at, side_of}
use Rattle.dch_accept.specs.HeldSets.{HasFormat}
use Rattle.dch_indication.specs.Lines.{Line}
use Rattle.dch_indication.specs.Told.{Told}
use Rattle.dch_layer2.specs.Layers.{Layer}
use Rattle.dch_layer2.specs.BoundedBearers.{AreBounded}
use Rattle.dch_layer2.specs.Reading.{Bad, Nothing, Read, Reading, reads_below}
use Rattle.dch_layer2.specs.Standing.{IsSameEnd, Represents}
use Rattle.dch_layer2.specs.Values.{LayerRunning}

-- layer 2 stands for one whose bearers are limited
pub record HasLayer (config : Config) (v : LayerRunning) : Type 0 where
  pub layer : Layer
  pub stands : Represents config layer v
  pub bounded : AreBounded config layer

-- layer 2 took the readings of the first channels
pub record HasRead {S : Type 0} (shows : S → Line → S → Type 0) (config : Config) (into : Dir) (readings : ℕ → Reading)
    (count : ℕ) (old new : LayerRunning) (before after : S) : Type 0 where
  pub ends : IsSameEnd old new
  pub stands : (layer : Layer) → Represents config layer old
      → Represents config (reads_below config into readings count layer).layer new
  pub told : (layer : Layer) → Represents config layer old
      → Told shows before (reads_below config into readings count layer).lines after

-- what was read of a channel is a TTI of it, one of whose up to 8 radio frames is bad, or nothing
abbrev pub IsTti : Config → Dir → ℕ → Reading → Type 0
IsTti config into i Nothing = Unit {0}
IsTti config into i (Read held) = HasFormat (channel_at (side_of config into) i) held
IsTti config into i (Bad frame) = frame < 8
