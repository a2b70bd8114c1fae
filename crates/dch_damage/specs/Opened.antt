-- Tables that have room for the frames of a configuration.
use Rattle.std.specs.Prelude.{◌≡◌, ◌<◌, ◌≤◌, ℕ, List, Option, Some, None, length}
use Rattle.dch_types.specs.declared.channel.Dir.{Dir}
use Rattle.dch_types.specs.Parts.{side_of}
use Rattle.dch_accept.specs.Cells.{frame_cells}
use Rattle.dch_accept.specs.Frames.{tfci_bits}
use Rattle.dch_accept.specs.Plans.{Planned}
use Rattle.dch_iub.specs.Shape.{AreFormats, frame_octets}
use Rattle.dch_node.specs.Values.{Radio}
use Rattle.dch_damage.specs.Tables.{IubTables, RadioTables, Tables, iub_cleared, radio_at, radio_cleared, set_at, set_in}

-- a number of cells that the radio frame of no combination of a direction exceeds
abbrev pub HoldsCells : Planned → Dir → ℕ → Type 0
HoldsCells planned dir cells = (c : ℕ) → c < length (side_of planned.config dir).combinations
    → frame_cells planned dir c ≤ cells

-- a number of octets that no Iub frame of a direction's set exceeds
abbrev pub HoldsOctets : Planned → Dir → ℕ → ℕ → Type 0
HoldsOctets planned dir set octets = (numbers : List ℕ) → AreFormats (side_of planned.config dir) set numbers
    → frame_octets planned.config dir set numbers ≤ octets

-- a direction's tables have a place for each TFCI bit, and for each cell of its radio frames
pub record IsRadioDamageOf (planned : Planned) (dir : Dir) (tables : RadioTables) : Type 0 where
  pub tfci : tfci_bits planned.config dir ≤ length tables.tfci
  pub cells : HoldsCells planned dir (length tables.cells)

-- a set's table has a mask for each octet of its Iub frames
abbrev pub IsIubDamageOf : Planned → Dir → ℕ → IubTables → Type 0
IsIubDamageOf planned dir set tables = HoldsOctets planned dir set (length tables.masks)

-- the tables of both directions and of their sets
pub record IsDamageOf (planned : Planned) (tables : Tables) : Type 0 where
  pub radio : (dir : Dir) → IsRadioDamageOf planned dir (radio_at tables dir)
  pub iub : (dir : Dir) (set : ℕ) → set < 8 → IsIubDamageOf planned dir set (set_at tables dir set)

-- nothing waits in a set's table
abbrev pub IsQuietSet : IubTables → Type 0
IsQuietSet tables = tables ≡ iub_cleared tables

-- nothing waits in a direction's tables
abbrev pub IsQuietRadio : RadioTables → Type 0
IsQuietRadio tables = tables ≡ radio_cleared tables

-- the tables of the first sets of a direction are new, and have room for the frames of two configurations
pub record AreNewSets (one other : Planned) (dir : Dir) (count : ℕ) (sets : List IubTables) : Type 0 where
  pub all : length sets ≡ count
  pub of_one : (set : ℕ) → set < count → IsIubDamageOf one dir set (set_in sets set)
  pub of_other : (set : ℕ) → set < count → IsIubDamageOf other dir set (set_in sets set)
  pub quiet : (set : ℕ) → set < count → IsQuietSet (set_in sets set)

-- a direction's tables have a place for each bit and each cell of a radio frame
pub record IsWithin (tables : RadioTables) (radio : Radio) : Type 0 where
  pub tfci : length radio.tfci ≤ length tables.tfci
  pub cells : length radio.cells ≤ length tables.cells

-- the same where there is a radio frame
abbrev pub IsWithinIf : RadioTables → Option Radio → Type 0
IsWithinIf tables None = Unit {0}
IsWithinIf tables (Some radio) = IsWithin tables radio

-- the tables of a direction have a place for each bit and each cell of its radio frame
abbrev pub HasRadioRoom : Tables → Dir → Option Radio → Type 0
HasRadioRoom tables dir radio = IsWithinIf (radio_at tables dir) radio

-- a set's table has a place for each octet of its Iub frame, if there is one
abbrev pub IsIubWithin : IubTables → Option (List ℕ) → Type 0
IsIubWithin tables None = Unit {0}
IsIubWithin tables (Some octets) = length octets ≤ length tables.masks

-- the table of a direction's set has a place for each octet of its Iub frame
abbrev pub HasIubRoom : Tables → Dir → ℕ → Option (List ℕ) → Type 0
HasIubRoom tables dir set octets = IsIubWithin (set_at tables dir set) octets

-- nothing waits in the tables of the first sets any more
pub record AreClearedTo (count : ℕ) (old new : List IubTables) : Type 0 where
  pub all : length new ≡ length old
  pub each : (s : ℕ) → s < count → set_in new s ≡ iub_cleared (set_in old s)
  pub later : (s : ℕ) → count ≤ s → set_in new s ≡ set_in old s
