-- The memory of the transport blocks of a TTI.
use Rattle.std.specs.Prelude.{◌≡◌, ◌≤◌, ◌*◌, ℕ}

-- so many blocks of this size lie within their memory, which is the room, and their marks within theirs
pub record HasBlockRoom (count size room bits marks : ℕ) : Type 0 where
  pub few : count ≤ 64
  pub within : count * size ≤ room
  pub whole : bits ≡ room
  pub marked : marks ≡ 64
