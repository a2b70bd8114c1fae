-- What the transport blocks of a TTI are after their bits were lent.
use Rattle.std.specs.Prelude.{◌*◌, ◌++◌, ℕ, List, take}
use Rattle.std.specs.Borrow.{Lends, MutBor, Fml, Array}
use Rattle.dch_bits.specs.declared.bit.Bit.{Bit}
use Rattle.dch_bits.specs.contracts.bit.Bit.{the_row as bit_row}
use Rattle.dch_accept.specs.Blocks.{Held}
use Rattle.dch_accept.specs.Frames.{overwritten}
use Rattle.dch_accept.specs.contracts.blocks.TtiBlocks.{the_row}

-- the blocks with other bits
abbrev pub with_bits : Held → List Bit → Held
with_bits held bits = record held { bits = overwritten held.bits bits }

-- the blocks end with the bits that were written last
abbrev pub LendsBits : MutBor Held → MutBor (List Bit) → Fml
LendsBits held lent = Lends the_row (Array bit_row 0) held lent (with_bits held.now)

-- the blocks with other bits in block i
abbrev pub with_block : Held → ℕ → List Bit → Held
with_block held i bits = record held { bits = overwritten held.bits (take (i * held.size) held.bits ++ bits) }

-- the blocks end with the bits of block i that were written last
abbrev pub LendsBlock : MutBor Held → ℕ → MutBor (List Bit) → Fml
LendsBlock held i lent = Lends the_row (Array bit_row 0) held lent (with_block held.now i)
