-- What the steps of writing a frame leave in its octets.
use Rattle.std.specs.Prelude.{◌≡◌, ◌+◌, ◌*◌, ◌<◌, ℕ, List, false, length, slice_index, slice_index_or}
use Rattle.std.specs.Int.{div_ceil}
use Rattle.dch_bits.specs.declared.bit.Bit.{Bit}
use Rattle.dch_bits.specs.declared.bit.Bit.TheVariants.{Zero}
use Rattle.dch_bits.specs.Octets.{bit_of_octets}
use Rattle.dch_types.specs.declared.channel.Side.{Side}
use Rattle.dch_types.specs.Parts.{channel_at}
use Rattle.dch_accept.specs.Blocks.{Held, block_at}
use Rattle.dch_accept.specs.HeldSets.{HeldSet, held_at}
use Rattle.dch_iub.specs.Shape.{blocks_place, mark_count, marks_before, number_place}
use Rattle.dch_iub.specs.Forms.{IsHeader, mark_of}

-- so many octets from a place on hold bits, and zeros after them
abbrev pub IsPacked : List ℕ → ℕ → ℕ → List Bit → Type 0
IsPacked frame at octets bits = (k : ℕ) → k < 8 * octets → bit_of_octets frame (8 * at + k) ≡ slice_index_or bits k Zero

-- the first blocks of a TTI, each in so many octets
abbrev pub ArePacked : List ℕ → ℕ → ℕ → Held → Type 0
ArePacked frame at blocks held = (b : ℕ) → b < blocks
    → IsPacked frame (at + b * div_ceil held.size 8) (div_ceil held.size 8) (block_at held b)

-- the marks of the first blocks of a TTI, from a place of a list on
abbrev pub AreListed : List Bit → ℕ → ℕ → Held → Type 0
AreListed bits at blocks held = (b : ℕ) → b < blocks → slice_index_or bits (at + b) Zero
    ≡ mark_of (slice_index_or held.good b false)

-- the format numbers of the first channels of a set are written
abbrev pub AreNamed : Side → ℕ → List ℕ → List ℕ → ℕ → Type 0
AreNamed side set frame numbers n = (i : ℕ) → i < n → (channel_at side i).set ≡ set
    → slice_index frame (number_place side set i) ≡ slice_index numbers i

-- and their blocks
abbrev pub AreWritten : Side → ℕ → List ℕ → List ℕ → HeldSet → ℕ → Type 0
AreWritten side set frame numbers held n = (i : ℕ) → i < n → (channel_at side i).set ≡ set
    → ArePacked frame (blocks_place side set numbers i) (length (held_at held.blocks i).good) (held_at held.blocks i)

-- and the marks of their blocks are in a list
abbrev pub AreCollected : Side → ℕ → List Bit → List ℕ → HeldSet → ℕ → Type 0
AreCollected side set bits numbers held n = (i : ℕ) → i < n → (channel_at side i).set ≡ set
    → AreListed bits (marks_before side set numbers i) (length (held_at held.blocks i).good) (held_at held.blocks i)

-- the header and the blocks are written
pub record IsFront (side : Side) (set : ℕ) (frame : List ℕ) (cfn : ℕ) (numbers : List ℕ) (held : HeldSet) : Type 0 where
  pub header : IsHeader side set frame cfn numbers
  pub spare : AreNamed side set frame numbers (length side.channels)
  pub blocks : AreWritten side set frame numbers held (length side.channels)

-- the marks of all blocks are written from an octet on, and zeros after them
pub record IsMarked (side : Side) (set : ℕ) (frame : List ℕ) (at : ℕ) (numbers : List ℕ) (held : HeldSet) : Type 0 where
  pub list : List Bit
  pub long : length list ≡ mark_count side set numbers
  pub collected : AreCollected side set list numbers held (length side.channels)
  pub packed : IsPacked frame at (div_ceil (mark_count side set numbers) 8) list
