-- What the encoder takes in, as a list of 520 places.
use Rattle.std.specs.Prelude.{◌≡◌, ◌+◌, ◌-◌, ◌<◌, ◌≤◌, ℕ, List, slice_index_or}
use Rattle.dch_bits.specs.declared.bit.Bit.{Bit}
use Rattle.dch_bits.specs.declared.bit.Bit.TheVariants.{Zero}
use Rattle.dch_coding.specs.declared.rate.Rate.{Rate}
use Rattle.dch_coding.specs.Conv.{bit_at, input, coded_bit}

-- place k + 8 holds the input of step k
pub record Feeds (inputs block : List Bit) : Type 0 where
  pub at : (k d : ℕ) → k < 512 → d ≤ 8 → bit_at inputs (k + 8 - d) ≡ input block k d

-- the first bits of a list are coded bits of a block
abbrev pub IsCodedTo : Rate → List Bit → ℕ → List Bit → Type 0
IsCodedTo rate block count out = (j : ℕ) → j < count → slice_index_or out j Zero ≡ coded_bit rate block j
