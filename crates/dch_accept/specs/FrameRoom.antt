-- The memory of a radio frame.
use Rattle.std.specs.Prelude.{◌≡◌, ◌≤◌, ◌*◌, ℕ}

-- so many TFCI bits lie within their memory, and so many cells within their room, of which the memory holds twice as
-- many
pub record HasRoom (tfci tfci_memory cells room cell_memory : ℕ) : Type 0 where
  pub few : tfci ≤ tfci_memory
  pub longest : tfci_memory ≡ 120
  pub within : cells ≤ room
  pub twice : cell_memory ≡ 2 * room
