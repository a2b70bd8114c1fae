-- What a node tells, as values: a line for each indication. A direction is that in which the data travels.
use Rattle.std.specs.Prelude.{ℕ, zero, suc, List, [], ◌++◌}
use Rattle.dch_bits.specs.declared.bit.Bit.{Bit}
use Rattle.dch_bits.specs.declared.bit.Trit.{Trit}
use Rattle.dch_types.specs.declared.channel.Dir.{Dir}

-- what a node tells: a unit is accepted or not; a block, a PDU or a unit came; a frame is sent, or refused; a TTI can't
-- be read
pub data Line : Type 0 where
  Took : (dir : Dir) → (bearer : ℕ) → Line
  Full : (dir : Dir) → (bearer : ℕ) → Line
  Wrong : (dir : Dir) → (bearer : ℕ) → Line
  Bad : (dir : Dir) → (channel : ℕ) → (block : ℕ) → Line
  Reserved : (dir : Dir) → (channel : ℕ) → Line
  NoBearer : (dir : Dir) → (channel : ℕ) → (ct : ℕ) → Line
  Nobody : (dir : Dir) → (channel : ℕ) → Line
  PduBad : (dir : Dir) → (bearer : ℕ) → (number : ℕ) → Line
  Outside : (dir : Dir) → (bearer : ℕ) → Line
  Overlong : (dir : Dir) → (bearer : ℕ) → Line
  Got : (dir : Dir) → (bearer : ℕ) → (octets : List ℕ) → Line
  GotBits : (dir : Dir) → (bearer : ℕ) → (bits : List Bit) → Line
  Iub : (dir : Dir) → (set : ℕ) → (octets : List ℕ) → Line
  IubBad : (dir : Dir) → (set : ℕ) → (number : ℕ) → Line
  Phy : (dir : Dir) → (tfci : List Bit) → (cells : List Trit) → Line
  PhyNone : Line
  BadTti : (dir : Dir) → (channel : ℕ) → (frame : ℕ) → Line
  Differs : (dir : Dir) → (channel : ℕ) → Line

-- the lines of the first sets, one set after another
abbrev pub joined : (ℕ → List Line) → ℕ → List Line
joined lines zero = []
joined lines (suc s) = joined lines s ++ lines s
