-- Letters as bits and as cells.
use Rattle.std.specs.Prelude.{Bool, List, ℕ, map, is_some, position}
use Rattle.dch_bits.specs.declared.bit.Bit.{Bit}
use Rattle.dch_bits.specs.declared.bit.Trit.{Trit}
use Rattle.dch_bits.specs.Text.{bit_of_letter, cell_of_letter, is_no_bit, is_no_cell}

-- the bits that a text of the letters 0 and 1 writes
abbrev pub bits_of : List ℕ → List Bit
bits_of text = map bit_of_letter text

-- a letter of a text is neither 0 nor 1
abbrev pub has_bad_letter : List ℕ → Bool
has_bad_letter text = is_some (position is_no_bit text)

-- the cells that a text of the letters 0, 1 and - writes
abbrev pub cells_of : List ℕ → List Trit
cells_of text = map cell_of_letter text

-- a letter of a text is none of these
abbrev pub has_bad_cell : List ℕ → Bool
has_bad_cell text = is_some (position is_no_cell text)
