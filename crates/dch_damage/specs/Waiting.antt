-- What waits in the tables.
use Rattle.std.specs.Prelude.{◌≡◌, ◌<◌, ℕ, List, Bool, true, false, length, slice_index, slice_index_or, replicate}
use Rattle.dch_types.specs.declared.channel.Dir.{Dir}
use Rattle.dch_damage.specs.Damage.{Damage, flips, is_iub_lost, is_lost, mask_on}
use Rattle.dch_damage.specs.Tables.{IubTables, RadioTables, Tables, radio_at, set_at}
use Rattle.dch_damage.specs.Turns.{turned_of}
use Rattle.dch_damage.specs.declared.turned.Turned.{Turned}
use Rattle.dch_damage.specs.declared.turned.Turned.TheVariants.{Not}

-- each place of a table keeps this number of turns
abbrev pub AreTurns : List Turned → (ℕ → ℕ) → Type 0
AreTurns table turns = (place : ℕ) → place < length table → slice_index_or table place Not ≡ turned_of (turns place)

-- the damage to a direction's radio frame waits
pub record RadioWaits (damage : List Damage) (dir : Dir) (tables : RadioTables) : Type 0 where
  pub lost : tables.lost ≡ is_lost damage dir
  pub tfci : AreTurns tables.tfci (flips damage dir true)
  pub cells : AreTurns tables.cells (flips damage dir false)

-- the damage to the Iub frame of a direction's set waits
pub record IubWaits (damage : List Damage) (dir : Dir) (set : ℕ) (tables : IubTables) : Type 0 where
  pub lost : tables.lost ≡ is_iub_lost damage dir set
  pub masks : (k : ℕ) → k < length tables.masks → slice_index tables.masks k ≡ mask_on damage dir set k

-- the damage to the next radio frame waits, and none besides
pub record Waits (damage : List Damage) (tables : Tables) : Type 0 where
  pub radio : (dir : Dir) → RadioWaits damage dir (radio_at tables dir)
  pub iub : (dir : Dir) (set : ℕ) → set < 8 → IubWaits damage dir set (set_at tables dir set)

-- a table that was not touched keeps no turn
abbrev pub AreNoTurns : Bool → List Turned → Type 0
AreNoTurns touched table = touched ≡ false → table ≡ replicate (length table) Not

-- and no mask
abbrev pub AreNoMasks : Bool → List ℕ → Type 0
AreNoMasks touched masks = touched ≡ false → masks ≡ replicate (length masks) 0
