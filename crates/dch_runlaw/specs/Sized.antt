-- Blocks that are just those of their formats: each has the size, and all together they are as many bits.
use Rattle.std.specs.Prelude.{◌≡◌, ◌<◌, ℕ, List, [], ◌∷◌, length}
use Rattle.dch_bits.specs.declared.bit.Bit.{Bit}
use Rattle.dch_types.specs.declared.channel.Side.{Side}
use Rattle.dch_types.specs.Parts.{channel_at, format_at}
use Rattle.dch_accept.specs.Blocks.{bits_of}
use Rattle.dch_layer2.specs.Layers.{Layer}
use Rattle.dch_layer2.specs.Joined.{joined_bits}

-- these blocks have a size, and bits
abbrev pub AreSized : ℕ → List (List Bit) → Type 0
AreSized size [] = Unit {0}
AreSized size (block ∷ later) = (length block ≡ size) × (0 < size) × AreSized size later

-- the blocks that layer 2 gave to the channels of a direction have the size of their format
abbrev pub AreAllSized : Side → Layer → Type 0
AreAllSized side layer = (i : ℕ) → i < length side.channels
    → AreSized (format_at (channel_at side i) (layer.given i).format).size (layer.given i).blocks

-- and are as many bits as their format has
abbrev pub AreAllWhole : Side → Layer → Type 0
AreAllWhole side layer = (i : ℕ) → i < length side.channels → length (joined_bits (layer.given i).blocks)
    ≡ bits_of (format_at (channel_at side i) (layer.given i).format)

-- both
pub record AreGiven (side : Side) (layer : Layer) : Type 0 where
  pub sized : AreAllSized side layer
  pub whole : AreAllWhole side layer
