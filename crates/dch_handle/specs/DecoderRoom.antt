-- The room of a decoder for blocks of up to so many bits.
use Rattle.std.specs.Prelude.{◌≡◌, ◌≤◌, ◌+◌, ◌*◌, ℕ, List, length}
use Rattle.dch_bits.specs.declared.bit.Bit.{Bit}
use Rattle.dch_bits.specs.declared.bit.Vote.{Vote}

pub record HasDecoderRoom (most trellis : ℕ) (votes : List Vote) (bits : List Bit) : Type 0 where
  pub short : most ≤ 504
  pub table : trellis ≡ most
  pub copies : length votes ≡ 3 * (most + 8)
  pub block : length bits ≡ most
