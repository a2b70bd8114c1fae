-- What the coder makes of letters.
use Rattle.std.specs.Prelude.{◌≡◌, ◌-◌, ℕ, List, length, map, take}
use Rattle.dch_bits.specs.declared.bit.Bit.{Bit}
use Rattle.dch_bits.specs.Text.{letter_of}
use Rattle.dch_coding.specs.Parity.{IsAttached}
use Rattle.dch_types.specs.declared.channel.Crc.{Crc}
use Rattle.dch_types.specs.Lengths.{crc_size}
use Rattle.dch_handle.specs.Codes.{bits_of}

-- a text writes a block with its parity behind it
pub record IsAttachedText (crc : Crc) (block text : List ℕ) : Type 0 where
  pub bits : List Bit
  pub written : text ≡ map letter_of bits
  pub attached : IsAttached crc (bits_of block) bits

-- 1 where the bits end with the parity of those before them, else 0
pub record IsCheckedAs (crc : Crc) (bits : List Bit) (good : ℕ) : Type 0 where
  pub yes : IsAttached crc (take (length bits - crc_size crc) bits) bits → good ≡ 1
  pub no : ¬ IsAttached crc (take (length bits - crc_size crc) bits) bits → good ≡ 0
