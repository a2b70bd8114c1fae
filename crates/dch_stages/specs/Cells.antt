-- The coded bits of a TTI before the first interleaver (TS 25.212 4.2.4 and 4.2.7 to 4.2.9.1).
use Rattle.std.specs.Prelude.{ℕ, List, length, map, slice_index_or}
use Rattle.std.specs.List.{range_with_len}
use Rattle.dch_bits.specs.declared.bit.Bit.{Bit}
use Rattle.dch_bits.specs.declared.bit.Bit.TheVariants.{Zero}
use Rattle.dch_bits.specs.declared.bit.Trit.{Trit}
use Rattle.dch_types.specs.Lengths.{padded}
use Rattle.dch_frame.specs.declared.pattern.Pattern.{Pattern}
use Rattle.dch_frame.specs.Patterns.{copies_below}
use Rattle.dch_frame.specs.Stages.{as_cell, origin_of}
use Rattle.dch_dlphy.specs.Loaded.{filled_cell}

-- an uplink TTI of so many radio frames: its coded bits, and zeros behind them (4.2.4)
abbrev pub equalised_cell : List Bit → ℕ → Trit
equalised_cell coded p = as_cell (slice_index_or coded p Zero)

unfoldable pub equalised : ℕ → List Bit → List Trit
equalised frames coded = map (equalised_cell coded) (range_with_len 0 (padded (length coded) frames))

-- a downlink TTI: the bits that rate matching keeps (4.2.7)
abbrev pub matched_cell : Pattern → List Bit → ℕ → Trit
matched_cell pattern coded p = as_cell (slice_index_or coded (origin_of pattern p) Zero)

unfoldable pub matched : Pattern → List Bit → List Trit
matched pattern coded = map (matched_cell pattern coded) (range_with_len 0 (copies_below pattern.kind pattern.len))

-- and in so many places, of which nothing is sent in those behind the bits (4.2.9.1)
unfoldable pub filled : Pattern → ℕ → List Bit → List Trit
filled pattern places coded = map (filled_cell pattern coded) (range_with_len 0 places)
