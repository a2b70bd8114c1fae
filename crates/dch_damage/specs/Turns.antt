-- Bits and cells that are turned over.
use Rattle.std.specs.Prelude.{ℕ, zero, suc}
use Rattle.dch_bits.specs.declared.bit.Bit.{Bit}
use Rattle.dch_bits.specs.declared.bit.Bit.TheVariants.{Zero, One}
use Rattle.dch_bits.specs.declared.bit.Trit.{Trit}
use Rattle.dch_bits.specs.declared.bit.Trit.TheVariants.{Zero as ZeroCell, One as OneCell, Off}
use Rattle.dch_damage.specs.declared.turned.Turned.{Turned}
use Rattle.dch_damage.specs.declared.turned.Turned.TheVariants.{Not, Odd, Even}

abbrev pub other_bit : Bit → Bit
other_bit Zero = One
other_bit One = Zero

-- a cell in which nothing is sent becomes a One
abbrev pub other_cell : Trit → Trit
other_cell ZeroCell = OneCell
other_cell OneCell = ZeroCell
other_cell Off = OneCell

-- a bit that is turned over so many times
abbrev pub turned_bit : ℕ → Bit → Bit
turned_bit zero bit = bit
turned_bit (suc n) bit = other_bit (turned_bit n bit)

-- a cell that is turned over so many times
abbrev pub turned_cell : ℕ → Trit → Trit
turned_cell zero cell = cell
turned_cell (suc n) cell = other_cell (turned_cell n cell)

-- one time more
abbrev pub next_turned : Turned → Turned
next_turned Not = Odd
next_turned Odd = Even
next_turned Even = Odd

-- what is kept of a number of times
abbrev pub turned_of : ℕ → Turned
turned_of zero = Not
turned_of (suc n) = next_turned (turned_of n)

-- what is kept of a bit's turns, applied to the bit
abbrev pub bit_after : Turned → Bit → Bit
bit_after Not bit = bit
bit_after Odd bit = other_bit bit
bit_after Even bit = bit

-- and of a cell's
abbrev pub cell_after : Turned → Trit → Trit
cell_after Not cell = cell
cell_after Odd cell = other_cell cell
cell_after Even cell = other_cell (other_cell cell)
