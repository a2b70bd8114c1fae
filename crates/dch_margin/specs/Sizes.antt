-- The sizes of a format.
use Rattle.std.specs.Prelude.{◌≡◌, ◌≢◌, ◌≤◌, ◌<◌, ◌*◌, ℕ}
use Rattle.dch_types.specs.declared.channel.Coding.TheVariants.{Uncoded}
use Rattle.dch_types.specs.declared.channel.Side.{Side}
use Rattle.dch_types.specs.Lengths.{coded_block}
use Rattle.dch_types.specs.Parts.{channel_at}
use Rattle.dch_collision.specs.Copies.{bits_in, padded_in}
use Rattle.dch_margin.specs.Differ.{plan_in}
use Rattle.dch_margin.specs.declared.sizes.Sizes.{Sizes}

-- the sizes of channel i in format f
pub record AreSizes (side : Side) (i f : ℕ) (sizes : Sizes) : Type 0 where
  pub coding : sizes.coding ≡ (channel_at side i).coding
  pub plan : sizes.plan ≡ plan_in side i f
  pub bits : sizes.bits ≡ bits_in side i f
  pub padded : sizes.padded ≡ padded_in side i f
  pub whole : sizes.plan.blocks * coded_block sizes.coding sizes.plan.size ≡ sizes.bits
  pub fits : sizes.bits ≤ sizes.padded
  pub small : sizes.plan.size ≤ 131072
  pub few_blocks : sizes.plan.blocks ≤ 65536
  pub filler : 1 ≤ sizes.plan.blocks → sizes.plan.filler < sizes.plan.size
  pub plain : sizes.coding ≡ Uncoded → sizes.plan.filler ≡ 0
  pub short : sizes.coding ≢ Uncoded → sizes.plan.size ≤ 504
