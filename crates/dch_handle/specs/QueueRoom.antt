-- The room of a queue.
use Rattle.std.specs.Prelude.{◌≤◌, ℕ}

-- so many are taken of those that came, for which there is room at opening
pub record IsQueue (taken came room capacity : ℕ) : Type 0 where
  pub within : taken ≤ came
  pub few : came ≤ room
  pub there : room ≤ capacity
