-- Blocks of a pool in a row.
use Rattle.std.specs.Prelude.{◌≡◌, ◌+◌, ◌-◌, ◌++◌, ◌==◌, ◌||◌, ℕ, List, [], ◌∷◌, Bool, false, length, replicate}
use Rattle.dch_pool.specs.Blocks.{Blocks, IsLent, octets_of, spare_of}

-- octets of a block, and zeros behind them
abbrev pub padded : List ℕ → List ℕ
padded octets = octets ++ replicate (64 - length octets) 0

-- what blocks hold, by their numbers
abbrev pub texts_of : Blocks → List ℕ → List (List ℕ)
texts_of pool [] = []
texts_of pool (n ∷ ns) = octets_of pool n ∷ texts_of pool ns

-- they are lent
abbrev pub AreLent : Blocks → List ℕ → Type 0
AreLent pool [] = Unit {0}
AreLent pool (n ∷ ns) = IsLent pool n × AreLent pool ns

abbrev pub is_among : ℕ → List ℕ → Bool
is_among n [] = false
is_among n (m ∷ ms) = (n == m) || is_among n ms

-- each stands there once
abbrev pub AreApart : List ℕ → Type 0
AreApart [] = Unit {0}
AreApart (n ∷ ns) = (is_among n ns ≡ false) × AreApart ns

-- the lent blocks of a pool in a row
pub record IsRow (pool : Blocks) (blocks : List ℕ) (capacity : ℕ) : Type 0 where
  pub size : pool.size ≡ 64
  pub lent : AreLent pool blocks
  pub apart : AreApart blocks
  pub count : spare_of pool + length blocks ≡ capacity
  pub whole : length pool.contents ≡ capacity
