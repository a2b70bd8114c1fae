-- The sizes of a format, as a search wants them.
use Rattle.std.specs.Prelude.{◌≡◌, ◌≢◌, ◌≤◌, ◌*◌, ℕ, List, length, take}
use Rattle.dch_bits.specs.declared.bit.Bit.{Bit}
use Rattle.dch_types.specs.declared.channel.Coding.TheVariants.{Uncoded}
use Rattle.dch_types.specs.declared.channel.Side.{Side}
use Rattle.dch_types.specs.Lengths.{coded_block}
use Rattle.dch_types.specs.Parts.{channel_at}
use Rattle.dch_coding.specs.declared.room.CodingRoom.{CodingRoom}
use Rattle.dch_coding.specs.Segments.{plan_of}
use Rattle.dch_collision.specs.Copies.{bits_in, padded_in}
use Rattle.dch_collision.specs.declared.found.FormatCollision.{FormatCollision}
use Rattle.dch_collision.specs.declared.shape.Shape.{Shape}
use Rattle.dch_collision.specs.Clear.{joined_in, Copies}
use Rattle.dch_collision.specs.Found.{IsFirstBlock, IsFirstInFormat, IsFirstInChannel}

-- the sizes of channel i in format f
pub record IsShape (side : Side) (i f : ℕ) (shape : Shape) : Type 0 where
  pub coding : shape.coding ≡ (channel_at side i).coding
  pub plan : shape.plan ≡ plan_of (joined_in side i f) (channel_at side i).coding
  pub bits : shape.bits ≡ bits_in side i f
  pub padded : shape.padded ≡ padded_in side i f
  pub whole : shape.plan.blocks * coded_block shape.coding shape.plan.size ≡ shape.bits
  pub fits : shape.bits ≤ shape.padded
  pub few : shape.padded ≤ 131072
  pub within : shape.plan.size ≤ shape.padded
  pub few_blocks : shape.plan.blocks ≤ 65536
  pub filler : shape.plan.filler ≤ shape.plan.size
  pub short : shape.coding ≢ Uncoded → shape.plan.size ≤ 504

-- there is room for a search in a format of these sizes
pub record Fits (room : CodingRoom) (shape : Shape) : Type 0 where
  pub bits : shape.padded ≤ room.bits
  pub block : shape.coding ≢ Uncoded → shape.plan.size ≤ room.code_block

-- the block of a collision, at the front of its room
abbrev pub block_of : FormatCollision → List Bit → List Bit
block_of hit room = take hit.size room

-- a collision in channel i and format f under a sequence, in the first code block that has one
abbrev pub IsFirstUnder : Side → Copies → ℕ → ℕ → List ℕ → ℕ → List Bit → Type 0
IsFirstUnder side sent i f sequence r block = IsFirstBlock (channel_at side i).coding (plan_of (joined_in side i f)
    (channel_at side i).coding) (sent i f sequence) r block

-- and under the first legal sequence that has one
pub record IsCollisionInFormat (side : Side) (sent : Copies) (i f : ℕ) (sequence : List ℕ) (room : List Bit)
    (hit : FormatCollision) : Type 0 where
  pub format : hit.format ≡ f
  pub size : hit.size ≤ length room
  pub here : IsFirstInFormat side sent i f sequence hit.block (block_of hit room)

-- and in the first format that has one
pub record IsCollisionInChannel (side : Side) (sent : Copies) (i : ℕ) (sequence : List ℕ) (room : List Bit)
    (hit : FormatCollision) : Type 0 where
  pub size : hit.size ≤ length room
  pub here : IsFirstInChannel side sent i hit.format sequence hit.block (block_of hit room)
