-- The places of the PDUs in flight that are requested, a bit for each of 4,096 numbers.
use Rattle.std.specs.Prelude.{◌+◌, ◌/◌, ◌%◌, ◌==◌, ℕ, List, Bool, slice_index}
use Rattle.std.specs.Int.{bit_at}

-- the words of a set of places, and the bit of its first place
pub record RequestSet : Type 0 where
  pub words : List ℕ
  pub first : ℕ

-- the bit of a number is 1
abbrev pub has : List ℕ → ℕ → Bool
has words n = bit_at (slice_index words (n / 64 % 64)) (n % 64) == 1

-- a place is in the set
abbrev pub is_in : RequestSet → ℕ → Bool
is_in set i = has set.words (set.first + i)
