-- The blocks of a pool in which the PDUs of a window stand.
use Rattle.std.specs.Prelude.{◌≡◌, ◌≤◌, ℕ, List, [], ◌∷◌, length, map, Option, Some, None}
use Rattle.circular_buffer.specs.Buffer.{buffer}
use Rattle.dch_am.specs.Bodies.{Body}
use Rattle.dch_am.specs.Contents.{body_in}
use Rattle.dch_pool.specs.Blocks.{Blocks, IsLent, octets_of, spare_of, without}
use Rattle.dch_amrecv.specs.Places.{Places}
use Rattle.dch_amrecv.specs.Stored.{IsStored, content_of}

-- what a place holds
abbrev pub body_at : Blocks → ℕ → Body
body_at pool block = body_in (content_of (octets_of pool block))

abbrev pub seen : Blocks → Option ℕ → Option Body
seen pool None = None
seen pool (Some block) = Some (body_at pool block)

-- the blocks in which PDUs stand
abbrev pub blocks_in : List (Option ℕ) → List ℕ
blocks_in [] = []
blocks_in (None ∷ ps) = blocks_in ps
blocks_in (Some b ∷ ps) = b ∷ blocks_in ps

-- just these blocks are lent, each once, and each holds a PDU
abbrev pub Lends : Blocks → List ℕ → Type 0
Lends pool [] = spare_of pool ≡ length pool.contents
Lends pool (b ∷ bs) = IsLent pool b × IsStored (octets_of pool b) × Lends (without pool b) bs

-- there is a block for each place
pub record IsKept (pool : Blocks) (items : List (Option ℕ)) (capacity : ℕ) : Type 0 where
  pub few : length items ≤ capacity
  pub count : length pool.contents ≡ capacity
  pub blocks : Lends pool (blocks_in items)

abbrev pub kept : Blocks → List (Option ℕ) → ℕ → Places
kept pool items capacity = record { ring = buffer (map (seen pool) items) capacity; pdu = pool.size }

-- the pool where a block is given back, if there is one
abbrev pub given : Option ℕ → Blocks → Blocks
given None pool = pool
given (Some b) pool = without pool b

-- other blocks were given back, and these places hold what they held
pub record Left (old new : Blocks) (items : List (Option ℕ)) : Type 0 where
  pub blocks : Lends new (blocks_in items)
  pub same : map (seen new) items ≡ map (seen old) items
  pub size : new.size ≡ old.size
  pub count : length new.contents ≡ length old.contents
