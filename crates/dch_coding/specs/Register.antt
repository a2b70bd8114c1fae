-- The register that holds the parity of the bits so far, as a number.
use Rattle.std.specs.Prelude.{◌+◌, ◌-◌, ◌*◌, ◌/◌, ◌%◌, ◌^◌, ◌<◌, ℕ, zero, suc, List, [], ◌∷◌, slice_index_or}
use Rattle.std.specs.Int.{bit_at}
use Rattle.dch_bits.specs.declared.bit.Bit.{Bit}
use Rattle.dch_bits.specs.Bits.{bit_of_number}
use Rattle.dch_types.specs.declared.channel.Crc.{Crc}
use Rattle.dch_types.specs.declared.channel.Crc.TheVariants.{C0, C8, C12, C16, C24}
use Rattle.dch_types.specs.Lengths.{crc_size}
use Rattle.dch_coding.specs.Parity.{IsParity}

-- so many of the lowest bits of a number, the highest first
unfoldable pub lowest_bits : ℕ → ℕ → List Bit
lowest_bits zero n = []
lowest_bits (suc count) n = bit_of_number (bit_at n count) ∷ lowest_bits count n

-- a register of so many bits holds the parity of a block, under the polynomial whose terms are the bits of a number
pub record HoldsParity (degree terms : ℕ) (block : List Bit) (register : ℕ) : Type 0 where
  pub small : register < 2 ^ degree
  pub parity : IsParity (lowest_bits (suc degree) terms) block (lowest_bits degree register)

-- a register holds the parity of a word of 32 bits, under the polynomial of degree 32 with these terms below its first
abbrev pub HoldsWord : ℕ → ℕ → ℕ → Type 0
HoldsWord terms word register = HoldsParity 32 (2 ^ 32 + terms) (lowest_bits 32 word) register

-- the word of place k: octet k % 256, and as many octets of zeros after it as rows of 256 places before
abbrev pub word_at : ℕ → ℕ
word_at k = k % 256 * 2 ^ (8 * (k / 256))

-- the first places of a table hold the parities of their words
abbrev pub AreWords : ℕ → List ℕ → ℕ → Type 0
AreWords terms words count = (k : ℕ) → k < count → HoldsWord terms (word_at k) (slice_index_or words k 0)

-- the polynomial of each number of parity bits, as the number whose bits are its terms
abbrev pub terms_of : Crc → ℕ
terms_of C0 = 1
terms_of C8 = 411
terms_of C12 = 6159
terms_of C16 = 69665
terms_of C24 = 25165923

-- the terms below the first one, where that stands at degree 32
abbrev pub aligned_terms : Crc → ℕ
aligned_terms kind = terms_of kind * 2 ^ (32 - crc_size kind) - 2 ^ 32
