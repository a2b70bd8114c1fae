-- A table of places by channel and format.
use Rattle.std.specs.Prelude.{◌≡◌, ◌<◌, ℕ, [], length, slice_index, slice_index_or}
use Rattle.dch_types.specs.declared.channel.Side.{Side}
use Rattle.dch_types.specs.Parts.{channel_at}
use Rattle.dch_frame.specs.declared.places.Places.{Places}

-- the places of format f of channel i
abbrev pub place_at : Places → ℕ → ℕ → ℕ
place_at places i f = slice_index (slice_index_or places.rows i []) f

-- a table has the places that a function says, for each format of each channel
abbrev pub IsTable : Side → (ℕ → ℕ → ℕ) → Places → Type 0
IsTable side places table = (i f : ℕ) → i < length side.channels → f < length (channel_at side i).formats
    → place_at table i f ≡ places i f
