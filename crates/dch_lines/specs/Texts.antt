-- The octets, bits and cells of the texts of a line. A dot stands for none.
use Rattle.std.specs.Prelude.{ℕ, List, [], Result, Ok, Err, codes, if◌then◌else◌, map}
use Rattle.std.specs.Str.{bytes_eq}
use Rattle.hex.specs.Hex.{decode_of}
use Rattle.hex.specs.declared.error.FromHexError.{FromHexError}
use Rattle.dch_bits.specs.declared.bit.Bit.{Bit}
use Rattle.dch_bits.specs.declared.bit.Trit.{Trit}
use Rattle.dch_bits.specs.Text.{bit_of_letter, cell_of_letter}
use Rattle.dch_types.specs.declared.bearer.Mode.{Mode}
use Rattle.dch_types.specs.declared.bearer.Mode.TheVariants.{Tm, Um, Am}

abbrev pub octets_if : Result (List ℕ) FromHexError → List ℕ
octets_if (Ok octets) = octets
octets_if (Err error) = []

-- the octets of a hexadecimal text
unfoldable pub octets_of : List ℕ → List ℕ
octets_of text = if bytes_eq text (codes ".") then [] else octets_if (decode_of text)

-- the bits of a text of letters
unfoldable pub bits_of : List ℕ → List Bit
bits_of text = if bytes_eq text (codes ".") then [] else map bit_of_letter text

-- the cells of a text of letters
unfoldable pub cells_of : List ℕ → List Trit
cells_of text = if bytes_eq text (codes ".") then [] else map cell_of_letter text

-- the octets and the bits of the text of a unit, by the mode of its bearer: a transparent one takes bits, and another
-- one octets
abbrev pub unit_octets : Mode → List ℕ → List ℕ
unit_octets Tm text = []
unit_octets Um text = octets_of text
unit_octets Am text = octets_of text

abbrev pub unit_bits : Mode → List ℕ → List Bit
unit_bits Tm text = bits_of text
unit_bits Um text = []
unit_bits Am text = []
