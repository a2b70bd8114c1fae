-- The memory for what arrives.
use Rattle.std.specs.Prelude.{◌≡◌, ◌<◌, ◌≤◌, ℕ, List, Option, length}
use Rattle.dch_node.specs.Values.{Radio}
use Rattle.dch_damage.specs.Tables.{IubTables, RadioTables, set_in}

-- what arrived in place of a radio frame, and how many TFCI bits and cells there is memory for
pub record RadioArrival : Type 0 where
  pub instead : Option (Option Radio)
  pub tfci_room : ℕ
  pub cells_room : ℕ

-- what arrived in place of an Iub frame, and how many octets there is memory for
pub record IubArrival : Type 0 where
  pub instead : Option (Option (List ℕ))
  pub room : ℕ

-- there is memory for as many bits and cells as a direction's tables have
pub record HoldsRadio (tables : RadioTables) (radio : RadioArrival) : Type 0 where
  pub tfci : length tables.tfci ≤ radio.tfci_room
  pub cells : length tables.cells ≤ radio.cells_room

-- a direction has eight sets, and there is memory for as many octets as the table of each has
pub record HoldsSets (sets : List IubTables) (room : ℕ) : Type 0 where
  pub all : length sets ≡ 8
  pub each : (s : ℕ) → s < 8 → length (set_in sets s).masks ≤ room

-- there is memory for what the tables of both directions hit
pub record HoldsAll (up down : RadioTables) (up_sets down_sets : List IubTables) (radio : RadioArrival)
    (iub : IubArrival) : Type 0 where
  pub radio_up : HoldsRadio up radio
  pub radio_down : HoldsRadio down radio
  pub iub_up : HoldsSets up_sets iub.room
  pub iub_down : HoldsSets down_sets iub.room
