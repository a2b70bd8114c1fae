-- What a combination needs of the formats of channels, one row for each format.
use Rattle.std.specs.Prelude.{◌≡◌, ◌<◌, ◌≤◌, ◌↔◌, ◌+◌, ◌*◌, ◌||◌, ℕ, List, [], Bool, true, false, IsTrue, if◌then◌else◌, length, nat_le, slice_index, slice_index_or}
use Rattle.dch_types.specs.declared.channel.Format.{Format}
use Rattle.dch_types.specs.Limits.{is_idle, idle_format}
use Rattle.dch_types.specs.Parts.{channel_at, format_at, format_number}
use Rattle.dch_mac.specs.Asked.{Asked, starts}
use Rattle.dch_mac.specs.Offered.{given_by, waiting}
use Rattle.dch_mac.specs.declared.row.Row.{Row}

-- format f of channel i
abbrev pub format_of : Asked → ℕ → ℕ → Format
format_of asked i f = format_at (channel_at asked.side i) f

-- channel i finds the blocks of a format, or that has no bit
abbrev pub finds_format : Asked → ℕ → Format → Bool
finds_format asked i format = is_idle format || nat_le format.number (waiting asked i format.size)

-- the bits that bearers of a priority send on channel i in a format, if it starts
abbrev pub carried_in : Asked → ℕ → Format → ℕ → ℕ
carried_in asked i format priority = if starts asked i then given_by asked i format priority * format.size else 0

-- a row of format f of channel i says whether a combination with it keeps what runs on the channel, and, if that
-- starts, finds its blocks and has its idle format; and which bits it carries for priorities 1 to 8, and its bits in
-- all
pub record IsRow (asked : Asked) (i f : ℕ) (row : Row) : Type 0 where
  pub kept : IsTrue row.kept ↔ (starts asked i ≡ false → f ≡ format_number asked.side asked.running i)
  pub found : IsTrue row.found ↔ (starts asked i ≡ true → finds_format asked i (format_of asked i f) ≡ true)
  pub idle : IsTrue row.idle ↔ (starts asked i ≡ true → f ≡ idle_format (channel_at asked.side i))
  pub carried : (q : ℕ) → q < 8 → slice_index row.carried q ≡ carried_in asked i (format_of asked i f) (q + 1)
  pub few : (q : ℕ) → q < 8 → slice_index row.carried q ≤ 320000
  pub bits : row.bits ≡ (format_of asked i f).number * (format_of asked i f).size
  pub small : row.bits ≤ 320000

-- the row of format f of channel i, which has room for 32 of them
abbrev pub row_at : List Row → ℕ → ℕ → Row
row_at rows i f = slice_index_or rows (i * 32 + f)
    (record { kept = false; found = false; idle = false; carried = []; bits = 0 })

-- a row for each format of each channel
pub record IsTable (asked : Asked) (rows : List Row) : Type 0 where
  pub size : length rows ≡ 256
  pub row : (i : ℕ) → i < length asked.side.channels → (f : ℕ) → f < length (channel_at asked.side i).formats
      → IsRow asked i f (row_at rows i f)
