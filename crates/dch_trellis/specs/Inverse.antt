-- A block by the inverse of the code, and the bits that copies decide on.
use Rattle.std.specs.Prelude.{◌≡◌, ◌+◌, ◌*◌, ◌%◌, ◌<◌, ℕ, List, [], ◌∷◌, nat_lt, length, sum_by, slice_index_or}
use Rattle.dch_bits.specs.declared.bit.Bit.{Bit}
use Rattle.dch_bits.specs.declared.bit.Bit.TheVariants.{Zero, One}
use Rattle.dch_bits.specs.declared.bit.Vote.{Vote}
use Rattle.dch_bits.specs.Bits.{bit_of_number, plus}
use Rattle.dch_coding.specs.declared.rate.Rate.{Rate}
use Rattle.dch_coding.specs.declared.rate.Rate.TheVariants.{Half, Third}
use Rattle.dch_coding.specs.Conv.{outputs, bit_at}
use Rattle.dch_trellis.specs.Nearest.{differing}
use Rattle.dch_trellis.specs.Search.{no_votes, choice}

-- the bit of which there are more copies
abbrev pub majority : Vote → Bit
majority vote = choice (nat_lt vote.zeros vote.ones)

-- the first bits of a list are those of which there are more copies
abbrev pub AreMajorities : ℕ → List Vote → List Bit → Type 0
AreMajorities count votes bits =
    (j : ℕ) → j < count → slice_index_or bits j Zero ≡ majority (slice_index_or votes j no_votes)

-- the coded bits whose sum is an input, as distances from the first one of its step
abbrev pub places : Rate → List ℕ
places Half = 8 ∷ 9 ∷ 10 ∷ 12 ∷ 13 ∷ []
places Third = 12 ∷ 14 ∷ 16 ∷ 22 ∷ 23 ∷ []

-- the bit at a distance from a place, as a number
abbrev pub bit_from : List Bit → ℕ → ℕ → ℕ
bit_from bits from d = bit_at bits (from + d)

-- the sum of the bits at these distances from a place, modulo 2
abbrev pub sum_from : List Bit → ℕ → List ℕ → Bit
sum_from bits from distances = bit_of_number (sum_by (bit_from bits from) distances % 2)

-- the first inputs are the sums of their coded bits
abbrev pub AreInverse : Rate → ℕ → List Bit → List Bit → Type 0
AreInverse rate count coded block =
    (k : ℕ) → k < count → slice_index_or block k Zero ≡ sum_from coded (outputs rate * k) (places rate)

-- more copies speak for a bit than against it
abbrev pub IsDecided : Vote → Bit → Type 0
IsDecided vote bit = differing vote bit < differing vote (plus One bit)

-- and so do the copies of all bits
abbrev pub AreDecided : List Vote → List Bit → Type 0
AreDecided votes bits =
    (j : ℕ) → j < length votes → IsDecided (slice_index_or votes j no_votes) (slice_index_or bits j Zero)
