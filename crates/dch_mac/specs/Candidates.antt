-- The combinations that may be chosen.
use Rattle.std.specs.Prelude.{◌≡◌, ◌<◌, ◌⊎◌, ◌||◌, ℕ, Bool, true, false, length, nat_le, slice_index_or}
use Rattle.dch_types.specs.Limits.{is_idle, idle_format}
use Rattle.dch_types.specs.Parts.{channel_at, format_number}
use Rattle.dch_mac.specs.Asked.{Asked, starts, format_in}
use Rattle.dch_mac.specs.Offered.{waiting}

-- combination c keeps the formats of the channels whose TTI goes on
abbrev pub KeepsRunning : Asked → ℕ → Type 0
KeepsRunning asked c = (i : ℕ) → i < length asked.side.channels → starts asked i ≡ false
    → format_number asked.side c i ≡ format_number asked.side asked.running i

-- channel i finds the blocks of its format, or that has no bit
abbrev pub finds : Asked → ℕ → ℕ → Bool
finds asked c i = is_idle (format_in asked c i) || nat_le (format_in asked c i).number
    (waiting asked i (format_in asked c i).size)

-- each channel that starts finds its blocks
abbrev pub FindsBlocks : Asked → ℕ → Type 0
FindsBlocks asked c = (i : ℕ) → i < length asked.side.channels → starts asked i ≡ true → finds asked c i ≡ true

-- each channel that starts has its idle format
abbrev pub StartsIdle : Asked → ℕ → Type 0
StartsIdle asked c = (i : ℕ) → i < length asked.side.channels → starts asked i ≡ true
    → format_number asked.side c i ≡ idle_format (channel_at asked.side i)

-- combination c isn't blocked, and finds its blocks
pub record IsServed (asked : Asked) (c : ℕ) : Type 0 where
  pub free : slice_index_or asked.blocked c false ≡ false
  pub found : FindsBlocks asked c

-- combination c may be chosen: it is served, or it is the idle one, which may always be chosen
pub record IsCandidate (asked : Asked) (c : ℕ) : Type 0 where
  pub there : c < length asked.side.combinations
  pub kept : KeepsRunning asked c
  pub may : IsServed asked c ⊎ StartsIdle asked c
