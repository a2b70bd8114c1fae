-- Readings without trouble.
use Rattle.std.specs.Prelude.{◌<◌, ℕ, false, length, IsTrue, slice_index_or}
use Rattle.dch_layer2.specs.Reading.{Bad, Nothing, Read, Reading}

-- nothing is read, or the blocks of a TTI, all good
abbrev pub IsClean : Reading → Type 0
IsClean Nothing = Unit {0}
IsClean (Read held) = (k : ℕ) → k < length held.good → IsTrue (slice_index_or held.good k false)
IsClean (Bad frame) = ⊥
