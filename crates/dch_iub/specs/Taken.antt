-- What the steps of reading a frame leave in the blocks of a set.
use Rattle.std.specs.Prelude.{◌≡◌, ◌≢◌, ◌+◌, ◌<◌, ℕ, List, Bool, true, false, length, slice_index, slice_index_or}
use Rattle.dch_bits.specs.Octets.{bit_of_octets}
use Rattle.dch_types.specs.declared.channel.Dir.{Dir}
use Rattle.dch_types.specs.declared.channel.Side.{Side}
use Rattle.dch_types.specs.declared.channel.Trch.{Trch}
use Rattle.dch_types.specs.Parts.{channel_at}
use Rattle.dch_accept.specs.Blocks.{Held}
use Rattle.dch_accept.specs.HeldSets.{HeldSet, HasFormat, held_at}
use Rattle.dch_iub.specs.Answers.{IsGoodFrame}
use Rattle.dch_iub.specs.Forms.{AreMarked, IsTail, StandAt, mark_of}
use Rattle.dch_iub.specs.Shape.{ForSet, blocks_place, format_in, marks_before}

-- at most the blocks of channel i changed
pub record Replaces (i : ℕ) (old new : HeldSet) : Type 0 where
  pub same_set : new.set ≡ old.set
  pub same_idle : new.idle ≡ old.idle
  pub same_length : length new.blocks ≡ length old.blocks
  pub same_room : (held_at new.blocks i).room ≡ (held_at old.blocks i).room
  pub others : (j : ℕ) → j ≢ i → held_at new.blocks j ≡ held_at old.blocks j

-- the set, the idle formats and the room of each channel are as they were
pub record IsKept (old new : HeldSet) : Type 0 where
  pub same_set : new.set ≡ old.set
  pub same_idle : new.idle ≡ old.idle
  pub same_length : length new.blocks ≡ length old.blocks
  pub same_rooms : (i : ℕ) → (held_at new.blocks i).room ≡ (held_at old.blocks i).room

-- the blocks of a channel are those of a format that stand in the octets from a place on
pub record IsTaken (channel : Trch) (number : ℕ) (frame : List ℕ) (at : ℕ) (held : Held) : Type 0 where
  pub numbered : held.format ≡ number
  pub has : HasFormat channel held
  pub stand : StandAt frame at held

-- all blocks are marked as good
abbrev pub AreGood : Held → Type 0
AreGood held = (b : ℕ) → b < length held.good → slice_index_or held.good b false ≡ true

-- the blocks of the first channels of a set are taken
abbrev pub AreTaken : Side → ℕ → List ℕ → List ℕ → HeldSet → ℕ → Type 0
AreTaken side set frame numbers held n = (i : ℕ) → i < n → (channel_at side i).set ≡ set
    → IsTaken (channel_at side i) (slice_index numbers i) frame (blocks_place side set numbers i)
    (held_at held.blocks i)

-- and are good
abbrev pub AreAllGood : Side → ℕ → HeldSet → ℕ → Type 0
AreAllGood side set held n = (i : ℕ) → i < n → (channel_at side i).set ≡ set → AreGood (held_at held.blocks i)

-- the first blocks of a TTI are marked by the bits from a place on
abbrev pub AreSet : List ℕ → ℕ → ℕ → Held → Type 0
AreSet frame at blocks held = (b : ℕ) → b < blocks → bit_of_octets frame (at + b)
    ≡ mark_of (slice_index_or held.good b false)

-- the blocks with other marks, as many
pub record IsMarkedAs (old new : Held) : Type 0 where
  pub same : new ≡ record old { good = new.good }
  pub count : length new.good ≡ length old.good

-- the marks of the first channels of a set are taken, from a bit on
abbrev pub AreMarksTaken : Side → ℕ → List ℕ → ℕ → List ℕ → HeldSet → ℕ → Type 0
AreMarksTaken side set frame bit numbers held n = (i : ℕ) → i < n → (channel_at side i).set ≡ set
    → AreMarked frame (bit + marks_before side set numbers i) (held_at held.blocks i)

-- the blocks of the channels of a set are as many as these formats have
abbrev pub AreCounted : Side → ℕ → List ℕ → HeldSet → Type 0
AreCounted side set numbers held = ForSet side set (λ i. length (held_at held.blocks i).good
    ≡ (format_in side numbers i).number)

-- a good frame was taken
pub record IsReceived (dir : Dir) (side : Side) (on : Bool) (set : ℕ) (frame : List ℕ) (cfn qe : ℕ)
    (held : HeldSet) : Type 0 where
  pub numbers : List ℕ
  pub is_good : IsGoodFrame dir side on set frame numbers
  pub named : slice_index frame 1 ≡ cfn
  pub taken : AreTaken side set frame numbers held (length side.channels)
  pub tail : IsTail dir side set frame qe numbers held
