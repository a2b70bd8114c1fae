-- What keeps the places of bits within a TTI.
use Rattle.std.proofs.Common.{◌≤◌, ◌<◌, ◌+◌, ◌*◌, ◌/◌, ℕ, zero, suc, arith}
use Rattle.std.proofs.Math.Nat.{div-lt_iff_lt-mul, div-mul-le_self}
use Rattle.std.proofs.lemmas.Nat.{mul-le}
use Rattle.dch_tti.proofs.Parts.{part_fits}

-- the bits of the transport blocks before one are no more than those with their parity
pub block_bit_few : (size attached q : ℕ) → size ≤ attached → q / attached * size ≤ q
block_bit_few size attached q few = omega (arith, mul-le (q / attached) size (q / attached) attached (omega arith) few, div-mul-le_self q attached)

-- where a product has something in it, its right factor is not zero
pub some_right : (a b n : ℕ) → n < a * b → 0 < b
some_right a zero n inside = absurd (omega (arith, inside))
some_right a (suc b) n inside = omega arith

-- the code block of a coded bit is one that is there
pub block_starts : (blocks long size coded : ℕ) → coded < blocks * long → coded / long * size + size ≤ blocks * size
block_starts blocks long size coded inside = part_fits blocks size (coded / long) ((div-lt_iff_lt-mul (some_right blocks long coded inside)).1 inside)
