-- The tables in which damage waits, and what arrives of frames by them.
use Rattle.std.specs.Prelude.{ℕ, List, [], Bool, true, false, if◌then◌else◌, Option, Some, None, bit_xor, length, replicate, slice_index, slice_index_or, slice_set}
use Rattle.dch_types.specs.declared.channel.Dir.{Dir}
use Rattle.dch_types.specs.declared.channel.Dir.TheVariants.{Up, Down}
use Rattle.dch_node.specs.Values.{Radio}
use Rattle.dch_damage.specs.Damage.{each_changed}
use Rattle.dch_damage.specs.Turns.{bit_after, cell_after, next_turned}
use Rattle.dch_damage.specs.declared.arrival.Arrival.{Arrival}
use Rattle.dch_damage.specs.declared.arrival.Arrival.TheVariants.{AsSent, Lost, Damaged}
use Rattle.dch_damage.specs.declared.turned.Turned.{Turned}
use Rattle.dch_damage.specs.declared.turned.Turned.TheVariants.{Not}

-- the radio frames of a direction: whether the next one is lost, and the turns of each of its TFCI bits and cells
pub record RadioTables : Type 0 where
  pub lost : Bool
  pub tfci : List Turned
  pub cells : List Turned

-- the Iub frames of a set: whether the next one is lost, and the mask of each of its octets
pub record IubTables : Type 0 where
  pub lost : Bool
  pub masks : List ℕ

-- those of both directions and their sets, and what arrived in place of the radio frame and of the Iub frame that were
-- hit last
pub record Tables : Type 0 where
  pub up : RadioTables
  pub down : RadioTables
  pub up_sets : List IubTables
  pub down_sets : List IubTables
  pub radio : Option (Option Radio)
  pub iub : Option (Option (List ℕ))

abbrev pub radio_at : Tables → Dir → RadioTables
radio_at tables Up = tables.up
radio_at tables Down = tables.down

abbrev pub sets_at : Tables → Dir → List IubTables
sets_at tables Up = tables.up_sets
sets_at tables Down = tables.down_sets

-- the tables with others for a direction's radio frames
abbrev pub with_radio : Tables → Dir → RadioTables → Tables
with_radio tables Up radio = record tables { up = radio }
with_radio tables Down radio = record tables { down = radio }

-- the tables with others for a direction's sets
abbrev pub with_sets : Tables → Dir → List IubTables → Tables
with_sets tables Up sets = record tables { up_sets = sets }
with_sets tables Down sets = record tables { down_sets = sets }

abbrev pub set_in : List IubTables → ℕ → IubTables
set_in sets s = slice_index_or sets s (record { lost = false; masks = [] })

-- those of set s of a direction
abbrev pub set_at : Tables → Dir → ℕ → IubTables
set_at tables dir s = set_in (sets_at tables dir) s

-- what is received of a frame that was sent: what arrives in place of it, or else the frame itself
abbrev pub received : {X : Type 0} → Option (Option X) → Option X → Option X
received None sent = sent
received (Some instead) sent = instead

-- what arrives of a radio frame that was hit
abbrev pub radio_arrived : Tables → Option Radio → Option Radio
radio_arrived tables sent = received tables.radio sent

-- and of an Iub frame
abbrev pub iub_arrived : Tables → Option (List ℕ) → Option (List ℕ)
iub_arrived tables sent = received tables.iub sent

-- what arrives in place of a frame, if anything else than the frame itself
abbrev pub instead_of : {X : Type 0} → Arrival → X → Option (Option X)
instead_of AsSent x = None
instead_of Lost x = Some None
instead_of Damaged x = Some (Some x)

-- one turn more of a place
abbrev pub turned_at : List Turned → ℕ → List Turned
turned_at table place = slice_set table place (next_turned (slice_index_or table place Not))

-- one turn more of a TFCI bit or of a cell
abbrev pub flipped : RadioTables → Bool → ℕ → RadioTables
flipped tables true place = record tables { tfci = turned_at tables.tfci place }
flipped tables false place = record tables { cells = turned_at tables.cells place }

-- nothing waits
abbrev pub radio_cleared : RadioTables → RadioTables
radio_cleared tables = record {
  lost = false;
  tfci = replicate (length tables.tfci) Not;
  cells = replicate (length tables.cells) Not;
}

abbrev pub iub_cleared : IubTables → IubTables
iub_cleared tables = record { lost = false; masks = replicate (length tables.masks) 0 }

-- a mask more of an octet
abbrev pub masked : List ℕ → ℕ → ℕ → List ℕ
masked masks octet mask = slice_set masks octet (bit_xor (slice_index masks octet) mask)

-- set s has other tables
abbrev pub with_set : List IubTables → ℕ → (IubTables → IubTables) → List IubTables
with_set sets s change = slice_set sets s (change (set_in sets s))

-- what arrives of a radio frame
abbrev pub radio_through : RadioTables → Option Radio → Option Radio
radio_through tables None = None
radio_through tables (Some radio) = if tables.lost then None else Some (record {
  tfci = each_changed (λ place. bit_after (slice_index_or tables.tfci place Not)) radio.tfci;
  cells = each_changed (λ place. cell_after (slice_index_or tables.cells place Not)) radio.cells;
})

-- what arrives of an Iub frame
abbrev pub iub_through : IubTables → Option (List ℕ) → Option (List ℕ)
iub_through tables None = None
iub_through tables (Some octets) = if tables.lost then None
    else Some (each_changed (λ k octet. bit_xor octet (slice_index tables.masks k)) octets)
