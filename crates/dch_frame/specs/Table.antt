-- The second interleaver of one code as a table.
use Rattle.std.specs.Prelude.{◌≡◌, ◌<◌, ◌≤◌, ℕ, List, length, slice_index}
use Rattle.dch_inter.specs.Places.{second_of}

-- place k of the table is the multiplexed place that cell k shows
pub record IsTable (places : List ℕ) : Type 0 where
  pub some : 0 < length places
  pub short : length places ≤ 65536
  pub shown : (k : ℕ) → k < length places → slice_index places k ≡ second_of (length places) k
