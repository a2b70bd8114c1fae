-- How a pool is held: one region of octets, a flag for each block, and the numbers of the spare ones.
use Rattle.std.specs.Prelude.{◌≡◌, ◌<◌, ◌≤◌, ◌*◌, ◌^◌, ℕ, List, [], ◌∷◌, Bool, true, false, not, Option, Some, None, length, take, drop, count_by, slice_index, slice_index_or, if◌then◌else◌}

-- the octets of the blocks that are lent, where the blocks stand one after another
abbrev pub contents_of : ℕ → List ℕ → List Bool → List (Option (List ℕ))
contents_of size region [] = []
contents_of size region (is_lent ∷ lent) = (if is_lent then Some (take size region)
    else None) ∷ contents_of size (drop size region) lent

-- the spare numbers are those of the blocks that are not lent, each once, and there is room for the numbers of all
pub record IsHeld (size : ℕ) (region : List ℕ) (lent : List Bool) (spare : List ℕ) (room : ℕ) : Type 0 where
  pub whole : length region ≡ length lent * size
  pub small : length region < 2 ^ 64
  pub free : (i : ℕ) → i < length spare → slice_index_or lent (slice_index spare i) true ≡ false
  pub distinct : (i j : ℕ) → i < length spare → j < length spare → slice_index spare i ≡ slice_index spare j → i ≡ j
  pub count : length spare ≡ count_by not lent
  pub numbers : length lent ≤ room
