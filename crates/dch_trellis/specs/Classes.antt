-- Branch metrics by class, and the row of a step from them.
use Rattle.std.specs.Prelude.{◌+◌, ◌-◌, ◌*◌, ◌/◌, ◌%◌, ◌==◌, ℕ, List, [], Bool, if◌then◌else◌, min, slice_index, slice_index_or}
use Rattle.dch_bits.specs.declared.bit.Bit.{Bit}
use Rattle.dch_bits.specs.declared.bit.Bit.TheVariants.{Zero}
use Rattle.dch_bits.specs.declared.bit.Vote.{Vote}
use Rattle.dch_bits.specs.Bits.{number_of, bit_of_number}
use Rattle.dch_trellis.specs.Nearest.{differing}
use Rattle.dch_trellis.specs.Steps.{vote_at}

-- the bit of row t of the table at a pair of states
abbrev pub table_bit : List (List Bit) → ℕ → ℕ → Bit
table_bit table i t = slice_index_or (slice_index_or table t []) i Zero

-- the three bits of the table at a pair of states, as a number
abbrev pub class_at : List (List Bit) → ℕ → ℕ
class_at table i = number_of (table_bit table i 0) + 2 * number_of (table_bit table i 1) +
    4 * number_of (table_bit table i 2)

-- the copies of a step that differ from the three bits of a class
abbrev pub class_metric : List Vote → ℕ → ℕ
class_metric step c = differing (vote_at step 0) (bit_of_number (c % 2)) + differing (vote_at step 1)
    (bit_of_number (c / 2 % 2)) + differing (vote_at step 2) (bit_of_number (c / 4 % 2))

-- what input Zero costs in state s, from what it costs in the even state of each pair
abbrev pub zero_near : List ℕ → ℕ → ℕ → ℕ
zero_near near total s = if s % 2 == 0 then slice_index near (s / 2) else total - slice_index near (s / 2)

-- the cost from state s on by input Zero, and by the input that costs less
abbrev pub by_zero_near : List ℕ → List ℕ → ℕ → ℕ → ℕ
by_zero_near later near total s = slice_index later (s / 2) + zero_near near total s

abbrev pub lesser_near : List ℕ → List ℕ → ℕ → ℕ → ℕ
lesser_near later near total s = min (by_zero_near later near total s)
    (slice_index later (128 + s / 2) + (total - zero_near near total s))

abbrev pub row_near : Bool → List ℕ → List ℕ → ℕ → ℕ → ℕ
row_near free later near total s = if free then lesser_near later near total s else by_zero_near later near total s
