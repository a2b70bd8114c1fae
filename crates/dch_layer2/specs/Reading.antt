-- What a node reads of its channels, and what layer 2 does with it.
use Rattle.std.specs.Prelude.{◌++◌, ℕ, zero, suc, [], ◌∷◌}
use Rattle.dch_types.specs.declared.channel.Dir.{Dir}
use Rattle.dch_types.specs.declared.config.Config.{Config}
use Rattle.dch_accept.specs.Blocks.{Held}
use Rattle.dch_indication.specs.Lines.{BadTti}
use Rattle.dch_layer2.specs.Layers.{Layer, Outcome, takes}
use Rattle.dch_layer2.specs.Coming.{came_of}

-- of a channel nothing is read, the blocks of its TTI, or that one of its radio frames is bad
pub data Reading : Type 0 where
  Nothing : Reading
  Read : (held : Held) → Reading
  Bad : (frame : ℕ) → Reading

-- layer 2 after a channel was read, and after the first channels were, in order
abbrev pub reads : Config → Dir → ℕ → Reading → Layer → Outcome
reads config into i Nothing layer = record { layer = layer; lines = [] }
reads config into i (Read held) layer = takes config into i 0 (came_of held) layer
reads config into i (Bad frame) layer = record { layer = layer; lines = BadTti into i frame ∷ [] }

abbrev pub reads_below : Config → Dir → (ℕ → Reading) → ℕ → Layer → Outcome
reads_below config into readings zero layer = record { layer = layer; lines = [] }
reads_below config into readings (suc i) layer = record {
  layer = (reads config into i (readings i) (reads_below config into readings i layer).layer).layer;
  lines = (reads_below config into readings i layer).lines
      ++ (reads config into i (readings i) (reads_below config into readings i layer).layer).lines;
}
