-- Code blocks that no receiver can tell apart, since rate matching leaves no copy of a bit in which their codes differ.
use Rattle.std.specs.Prelude.{◌≡◌, ◌≢◌, ◌<◌, ℕ, List, Bool, false, if◌then◌else◌, replicate, slice_index_or}
use Rattle.dch_bits.specs.declared.bit.Bit.{Bit}
use Rattle.dch_bits.specs.declared.bit.Bit.TheVariants.{Zero}
use Rattle.dch_types.specs.declared.channel.Coding.{Coding}
use Rattle.dch_types.specs.Lengths.{coded_block}
use Rattle.dch_coding.specs.Chain.{coded_as}
use Rattle.dch_trellis.specs.Nearest.{IsBlock, IsFirst}

-- two different blocks of one size and filler whose coded bits agree wherever a copy is kept
pub record IsCollision (coding : Coding) (size filler : ℕ) (sent_flags : ℕ → ℕ) (a b : List Bit) : Type 0 where
  pub first : IsBlock size filler a
  pub second : IsBlock size filler b
  pub differ : a ≢ b
  pub agree : (t : ℕ) → t < coded_block coding size → 0 < sent_flags t → slice_index_or (coded_as coding a) t Zero
      ≡ slice_index_or (coded_as coding b) t Zero

-- no two blocks collide
abbrev pub NoneCollide : Coding → ℕ → ℕ → (ℕ → ℕ) → Type 0
NoneCollide coding size filler sent_flags = (a b : List Bit) → IsCollision coding size filler sent_flags a b → ⊥

-- of the blocks that collide with the block of zeros, the first in text order
pub record IsFirstCollision (coding : Coding) (size filler : ℕ) (sent_flags : ℕ → ℕ) (block : List Bit) : Type 0 where
  pub collides : IsCollision coding size filler sent_flags (replicate size Zero) block
  pub first : (other : List Bit) → IsCollision coding size filler sent_flags (replicate size Zero) other
      → IsFirst block other

-- one copy of each coded bit that is sent, and none of the others
abbrev pub copies_kept : List Bool → ℕ → ℕ
copies_kept sent_flags t = if slice_index_or sent_flags t false then 1 else 0
