-- Two outputs of a step that say the same.
use Rattle.std.specs.Prelude.{◌≡◌, ◌<◌, ℕ}
use Rattle.dch_node.specs.Values.{Output}

-- they have the same lines, the same radio frame, and the same Iub frame for each set
pub record IsSameOutput (output other : Output) : Type 0 where
  pub lines : other.lines ≡ output.lines
  pub sent : other.sent ≡ output.sent
  pub iub : (s : ℕ) → s < 8 → other.iub s ≡ output.iub s
