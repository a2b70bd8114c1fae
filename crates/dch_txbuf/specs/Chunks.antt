-- Octets in blocks, and octets that blocks hold.
use Rattle.std.specs.Prelude.{◌≡◌, ◌+◌, ◌/◌, ◌++◌, ℕ, zero, suc, List, [], ◌∷◌, drop, length, take}
use Rattle.dch_txbuf.specs.Rows.{padded}

-- the blocks of 64 octets that so many octets take
abbrev pub blocks_for : ℕ → ℕ
blocks_for octets = (octets + 63) / 64

-- octets in so many blocks
abbrev pub chunked : ℕ → List ℕ → List (List ℕ)
chunked zero octets = []
chunked (suc n) octets = padded (take 64 octets) ∷ chunked n (drop 64 octets)

-- all that blocks hold
abbrev pub joined : List (List ℕ) → List ℕ
joined [] = []
joined (block ∷ blocks) = block ++ joined blocks

-- each has 64 octets
abbrev pub AreWhole : List (List ℕ) → Type 0
AreWhole [] = Unit {0}
AreWhole (block ∷ blocks) = (length block ≡ 64) × AreWhole blocks
