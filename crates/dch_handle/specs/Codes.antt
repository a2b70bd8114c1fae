-- What the numbers and letters of C stand for.
use Rattle.std.specs.Prelude.{ℕ, ◌==◌, if◌then◌else◌, Option, None, Some}
use Rattle.dch_types.specs.declared.channel.Crc.{Crc}
use Rattle.dch_types.specs.declared.channel.Crc.TheVariants.{C0, C8, C12, C16, C24}
use Rattle.dch_types.specs.declared.channel.Coding.{Coding}
use Rattle.dch_types.specs.declared.channel.Coding.TheVariants.{Uncoded, Half, Third}
use Rattle.dch_types.specs.declared.channel.Dir.{Dir}
use Rattle.dch_types.specs.declared.channel.Dir.TheVariants.{Up, Down}
use Rattle.dch_coding.specs.declared.rate.Rate.{Rate}
use Rattle.dch_coding.specs.declared.rate.Rate.TheVariants.{Half as RateHalf, Third as RateThird}
pub use Rattle.dch_handle.specs.Letters.{bits_of, cells_of, has_bad_cell, has_bad_letter}

-- the parity of so many bits
abbrev pub crc_of : ℕ → Option Crc
crc_of bits = if bits == 0 then Some C0 else if bits == 8 then Some C8 else if bits == 12 then Some C12
    else if bits == 16 then Some C16 else if bits == 24 then Some C24 else None

-- the rate of so many coded bits for a bit
abbrev pub rate_of : ℕ → Option Rate
rate_of outputs = if outputs == 2 then Some RateHalf else if outputs == 3 then Some RateThird else None

-- the coding of so many coded bits for a bit
abbrev pub coding_of : ℕ → Option Coding
coding_of outputs = if outputs == 1 then Some Uncoded else if outputs == 2 then Some Half
    else if outputs == 3 then Some Third else None

-- the direction of a number
abbrev pub dir_of : ℕ → Option Dir
dir_of direction = if direction == 0 then Some Up else if direction == 1 then Some Down else None
