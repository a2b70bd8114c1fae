-- The blocks that layer 2 gave to a channel, one after another.
use Rattle.std.specs.Prelude.{◌≡◌, ◌++◌, List, [], ◌∷◌}
use Rattle.dch_bits.specs.declared.bit.Bit.{Bit}
use Rattle.dch_accept.specs.Blocks.{Held}
use Rattle.dch_layer2.specs.Layers.{Given}

-- the bits of blocks, one after another
abbrev pub joined_bits : List (List Bit) → List Bit
joined_bits [] = []
joined_bits (block ∷ later) = block ++ joined_bits later

-- these blocks are those that layer 2 gave to a channel
pub record CarriesGiven (given : Given) (held : Held) : Type 0 where
  pub format : held.format ≡ given.format
  pub bits : held.bits ≡ joined_bits given.blocks
