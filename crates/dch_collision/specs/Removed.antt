-- That rate matching removes a coded bit: no copy of it is sent (TS 25.212 4.2.7).
use Rattle.std.specs.Prelude.{◌≡◌, ◌<◌, ℕ, List}
use Rattle.dch_types.specs.declared.channel.Side.{Side}
use Rattle.dch_collision.specs.Sequences.{IsLegal}
use Rattle.dch_collision.specs.Copies.{bits_in}

-- under some legal sequence of combinations a coded bit of channel i in format f has no copy, where `sent` tells the
-- copies of each bit in a direction; the padding of a TTI is no coded bit
pub record IsPunctured (side : Side) (sent : ℕ → ℕ → List ℕ → ℕ → ℕ) (i f : ℕ) : Type 0 where
  pub sequence : List ℕ
  pub legal : IsLegal side i f sequence
  pub bit : ℕ
  pub inside : bit < bits_in side i f
  pub removed : sent i f sequence bit ≡ 0
