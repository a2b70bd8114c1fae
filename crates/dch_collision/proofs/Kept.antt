-- Collisions hang on which coded bits are sent, and not on how many copies there are.
use Rattle.std.proofs.Common.{◌<◌, ℕ, List}
use Rattle.std.specs.Prelude.{replicate}
use Rattle.dch_bits.specs.declared.bit.Bit.{Bit}
use Rattle.dch_bits.specs.declared.bit.Bit.TheVariants.{Zero}
use Rattle.dch_types.specs.declared.channel.Coding.{Coding}
use Rattle.dch_types.specs.Lengths.{coded_block}
use Rattle.dch_collision.specs.Collisions.{IsCollision, IsFirstCollision, NoneCollide}

-- what is sent under the second rule is sent under the first
abbrev pub SendsLess : Coding → ℕ → (ℕ → ℕ) → (ℕ → ℕ) → Type 0
SendsLess coding size sent_flags less = (t : ℕ) → t < coded_block coding size → 0 < less t → 0 < sent_flags t

pub collision-less : (coding : Coding) (size filler : ℕ) (sent_flags less : ℕ → ℕ) (a b : List Bit) → SendsLess coding size sent_flags less → IsCollision coding size filler sent_flags a b → IsCollision coding size filler less a b
collision-less coding size filler sent_flags less a b sends collision = record {
  first = collision.first;
  second = collision.second;
  differ = collision.differ;
  agree = λ t within some. collision.agree t within (sends t within some);
}

pub none-more : (coding : Coding) (size filler : ℕ) (sent_flags less : ℕ → ℕ) → SendsLess coding size sent_flags less → NoneCollide coding size filler less → NoneCollide coding size filler sent_flags
none-more coding size filler sent_flags less sends none a b collision = none a b (collision-less coding size filler sent_flags less a b sends collision)

pub first-same : (coding : Coding) (size filler : ℕ) (sent_flags other : ℕ → ℕ) (block : List Bit) → SendsLess coding size sent_flags other → SendsLess coding size other sent_flags → IsFirstCollision coding size filler sent_flags block → IsFirstCollision coding size filler other block
first-same coding size filler sent_flags other block sends back is = record {
  collides = collision-less coding size filler sent_flags other (replicate size Zero) block sends is.collides;
  first = λ second collision. is.first second (collision-less coding size filler other sent_flags (replicate size Zero) second back collision);
}
