-- The memory of a TTI.
use Rattle.std.specs.Prelude.{◌≡◌, ◌<◌, ◌≤◌, ℕ, List, Bool, true, length, slice_index_or}
use Rattle.dch_bits.specs.declared.bit.Trit.{Trit}
use Rattle.dch_bits.specs.declared.bit.Trit.TheVariants.{Off}

-- the first cells are those of a TTI, and there are as many in all as there is room for; where the TTI is said to be
-- silent, nothing is sent in it
pub record IsBuffered (len : ℕ) (silent : Bool) (cells : List Trit) (room : ℕ) : Type 0 where
  pub within : len ≤ length cells
  pub whole : length cells ≡ room
  pub off : silent ≡ true → (k : ℕ) → k < len → slice_index_or cells k Off ≡ Off
