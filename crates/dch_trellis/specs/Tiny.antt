-- The search in 8 bits: rows of costs that are less by what was taken off them.
use Rattle.std.specs.Prelude.{◌≡◌, ◌+◌, ◌-◌, ◌*◌, ◌<◌, ◌≤◌, ℕ, List, [], slice_index, slice_index_or}
use Rattle.dch_bits.specs.declared.bit.Vote.{Vote}
use Rattle.dch_coding.specs.declared.rate.Rate.{Rate}
use Rattle.dch_coding.specs.Conv.{outputs}
use Rattle.dch_trellis.specs.Nearest.{copies}
use Rattle.dch_trellis.specs.Search.{no_votes, branch_metric, is_free, best}

-- the copies of a step are at most 15, where no coded bit has more than so many
abbrev pub IsLight : Rate → List Vote → Type 0
IsLight rate votes = (i : ℕ) → outputs rate * copies (slice_index_or votes i no_votes) ≤ 15

-- a row holds the least cost from step k on, less a base
abbrev pub IsLowered : Rate → List Vote → ℕ → ℕ → ℕ → ℕ → List ℕ → Type 0
IsLowered rate votes size filler k base row = (s : ℕ) → s < 256 → slice_index row s + base
    ≡ best (branch_metric rate votes) (is_free size filler) (size + 8 - k) k s

-- each row from a step on holds least costs, less a base of its own
abbrev pub IsLoweredFrom : Rate → List Vote → ℕ → ℕ → ℕ → List (List ℕ) → Type 0
IsLoweredFrom rate votes size filler from rows = (k : ℕ) → from ≤ k → k ≤ size + 8 → (base : ℕ)
    × IsLowered rate votes size filler k base (slice_index_or rows k [])

-- the rows from step k on hold least costs less a base, and row k none above a bound
pub record IsFilled (rate : Rate) (votes : List Vote) (size filler k base most : ℕ)
    (rows : List (List ℕ)) : Type 0 where
  pub rows_from : IsLoweredFrom rate votes size filler k rows
  pub here : IsLowered rate votes size filler k base (slice_index_or rows k [])
  pub small : (s : ℕ) → s < 256 → slice_index (slice_index_or rows k []) s ≤ most
