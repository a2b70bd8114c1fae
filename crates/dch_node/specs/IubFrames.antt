-- What a node takes of an Iub frame: the number of its refusal, or the blocks of each channel of its set (TS 25.427
-- 6.2).
use Rattle.std.specs.Prelude.{◌≡◌, ℕ}
use Rattle.dch_types.specs.declared.channel.Side.{Side}
use Rattle.dch_accept.specs.HeldSets.{HeldSet, held_at}
use Rattle.dch_iub.specs.declared.error.IubError.{IubError}
use Rattle.dch_iub.specs.declared.error.IubError.TheVariants.{Short, HeaderCheck, Control, Format, Length, PayloadCheck}
use Rattle.dch_iub.specs.Shape.{ForSet}
use Rattle.dch_node.specs.Values.{Blocks}

-- the number by which a refusal of an Iub frame is reported
abbrev pub refusal_number : IubError → ℕ
refusal_number Short = 1
refusal_number HeaderCheck = 2
refusal_number Control = 3
refusal_number (Format f) = 4
refusal_number Length = 5
refusal_number PayloadCheck = 6

-- the blocks of channel i in a set
abbrev pub blocks_at : HeldSet → ℕ → Blocks
blocks_at held i = record { format = (held_at held.blocks i).format; bits = (held_at held.blocks i).bits }

-- two readings of a frame say the same: its CFN, and the blocks of each channel of its set
pub record IsSameReading (side : Side) (set cfn other_cfn : ℕ) (held other : HeldSet) : Type 0 where
  pub named : other_cfn ≡ cfn
  pub blocks : ForSet side set (λ i. blocks_at other i ≡ blocks_at held i)
