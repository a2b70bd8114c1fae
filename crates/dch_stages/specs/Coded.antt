-- The transport blocks of a TTI on their way to coded bits (TS 25.212 4.2.1 to 4.2.3).
use Rattle.std.specs.Prelude.{◌≡◌, ◌++◌, ℕ, List, length, replicate}
use Rattle.dch_bits.specs.declared.bit.Bit.{Bit}
use Rattle.dch_bits.specs.declared.bit.Bit.TheVariants.{Zero}
use Rattle.dch_types.specs.declared.channel.Format.{Format}
use Rattle.dch_types.specs.declared.channel.Trch.{Trch}
use Rattle.dch_types.specs.Lengths.{joined_bits}
use Rattle.dch_coding.specs.Chain.{coded_of}
use Rattle.dch_coding.specs.Segments.{plan_of}
use Rattle.dch_coding.specs.Ttis.{AreJoined}

-- the transport blocks with their parity, the code blocks with the filler, and the coded bits, each one after another,
-- and for how many coded bits there is room
pub record Coded : Type 0 where
  pub joined : List Bit
  pub blocks : List Bit
  pub coded : List Bit
  pub room : ℕ

-- these are the stages of the transport blocks of a format
pub record IsCoded (channel : Trch) (format : Format) (bits : List Bit) (stages : Coded) : Type 0 where
  pub joined : AreJoined channel format bits stages.joined
  pub blocks : stages.blocks ≡ replicate (plan_of (length stages.joined) channel.coding).filler Zero ++ stages.joined
  pub coded : stages.coded ≡ coded_of channel.coding stages.joined

-- the code blocks and the coded bits are those of the joined bits, which are as many as the format has
pub record AreCut (channel : Trch) (format : Format) (stages : Coded) : Type 0 where
  pub whole : length stages.joined ≡ joined_bits channel format
  pub blocks : stages.blocks ≡ replicate (plan_of (length stages.joined) channel.coding).filler Zero ++ stages.joined
  pub coded : stages.coded ≡ coded_of channel.coding stages.joined
