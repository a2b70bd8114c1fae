-- The first collision of code blocks: by channel, format, legal sequence as a list, and code block.
use Rattle.std.specs.Prelude.{◌<◌, ℕ, List, Option, Some, None, length}
use Rattle.dch_bits.specs.declared.bit.Bit.{Bit}
use Rattle.dch_types.specs.declared.channel.Coding.{Coding}
use Rattle.dch_types.specs.declared.channel.Side.{Side}
use Rattle.dch_types.specs.Parts.{channel_at}
use Rattle.dch_coding.specs.declared.cut.Plan.{Plan}
use Rattle.dch_coding.specs.Segments.{plan_of, filler_of}
use Rattle.dch_collision.specs.Sequences.{IsLegal, IsBefore}
use Rattle.dch_collision.specs.Collisions.{IsFirstCollision}
use Rattle.dch_collision.specs.declared.found.Found.{Found}
use Rattle.dch_collision.specs.Clear.{block_copies, joined_in, Copies, IsClearBlock, IsClearUnder, IsClearFormat, IsClearChannel, IsClearSide}

-- a block is the first in text order that collides with the block of zeros in the place of code block r
abbrev pub IsFirstInBlock : Coding → Plan → (ℕ → ℕ) → ℕ → List Bit → Type 0
IsFirstInBlock coding plan sent r block = IsFirstCollision coding plan.size (filler_of plan r)
    (block_copies coding plan sent r) block

-- and code block r is the first in which two blocks collide
pub record IsFirstBlock (coding : Coding) (plan : Plan) (sent : ℕ → ℕ) (r : ℕ) (block : List Bit) : Type 0 where
  pub there : r < plan.blocks
  pub here : IsFirstInBlock coding plan sent r block
  pub before : (earlier : ℕ) → earlier < r → IsClearBlock coding plan sent earlier

-- and the sequence is the first legal one of channel i and format f under which two blocks collide
pub record IsFirstInFormat (side : Side) (sent : Copies) (i f : ℕ) (sequence : List ℕ) (r : ℕ)
    (block : List Bit) : Type 0 where
  pub legal : IsLegal side i f sequence
  pub here : IsFirstBlock (channel_at side i).coding (plan_of (joined_in side i f) (channel_at side i).coding)
      (sent i f sequence) r block
  pub before : (other : List ℕ) → IsLegal side i f other → IsBefore other sequence → IsClearUnder side sent i f other

-- and f is the first such format of channel i
pub record IsFirstInChannel (side : Side) (sent : Copies) (i f : ℕ) (sequence : List ℕ) (r : ℕ)
    (block : List Bit) : Type 0 where
  pub here : IsFirstInFormat side sent i f sequence r block
  pub before : (earlier : ℕ) → earlier < f → IsClearFormat side sent i earlier

-- and i is the first such channel
pub record IsFirstOf (side : Side) (sent : Copies) (i f : ℕ) (sequence : List ℕ) (r : ℕ)
    (block : List Bit) : Type 0 where
  pub there : i < length side.channels
  pub here : IsFirstInChannel side sent i f sequence r block
  pub before : (earlier : ℕ) → earlier < i → IsClearChannel side sent earlier

-- what a search of a direction finds: its first collision, or that there is none
abbrev pub Finds : Side → Copies → Option Found → Type 0
Finds side sent None = IsClearSide side sent
Finds side sent (Some found) = IsFirstOf side sent found.channel found.format found.sequence found.block found.second
