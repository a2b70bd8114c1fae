-- A pool of equal blocks: which of them are lent, and what those hold.
use Rattle.std.specs.Prelude.{◌≡◌, ◌<◌, ◌+◌, ◌++◌, ℕ, take, drop, List, [], Option, Some, None, IsSome, is_none, unwrap_or, length, count_by, replicate, slice_index_or, slice_set}

-- the octets of each block where it is lent, in the order of their numbers, and how many octets a block has
pub record Blocks : Type 0 where
  pub size : ℕ
  pub contents : List (Option (List ℕ))

-- how many blocks are not lent
abbrev pub spare_of : Blocks → ℕ
spare_of pool = count_by is_none pool.contents

-- a block is lent
abbrev pub IsLent : Blocks → ℕ → Type 0
IsLent pool block = IsSome (slice_index_or pool.contents block None)

-- the octets of a block that is lent
abbrev pub octets_of : Blocks → ℕ → List ℕ
octets_of pool block = unwrap_or (slice_index_or pool.contents block None) []

-- octets with others written over them from a place on
abbrev pub overwritten : List ℕ → ℕ → List ℕ → List ℕ
overwritten held at octets = take at held ++ (octets ++ drop (at + length octets) held)

-- the pool with these octets in a block
abbrev pub with_octets : Blocks → ℕ → List ℕ → Blocks
with_octets pool block octets = record pool { contents = slice_set pool.contents block (Some octets) }

-- the pool with octets written over those of a block, from a place of it on
unfoldable pub written : Blocks → ℕ → ℕ → List ℕ → Blocks
written pool block at octets = with_octets pool block (overwritten (octets_of pool block) at octets)

-- the pool with a block that is not lent any more
abbrev pub without : Blocks → ℕ → Blocks
without pool block = record pool { contents = slice_set pool.contents block None }

-- a block that was spare is lent, and holds zeros; the others are as they were
pub record Takes (old new : Blocks) (block : ℕ) : Type 0 where
  pub there : block < length old.contents
  pub was : slice_index_or old.contents block None ≡ None
  pub now : new ≡ with_octets old block (replicate old.size 0)
