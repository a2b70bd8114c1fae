-- The ages of SDUs, read off the ticks at which they were accepted. Ages end at 65,535.
use Rattle.std.specs.Prelude.{◌+◌, ◌-◌, ◌%◌, ◌<◌, ◌≤◌, ℕ, zero, suc, List, [], ◌∷◌, length, min, slice_index}

-- how many ticks ago that was, counted up to 65,536
abbrev pub since : ℕ → ℕ → ℕ
since now at = (now + (65536 - at)) % 65536

abbrev pub all_since : ℕ → List ℕ → List ℕ
all_since now [] = []
all_since now (t ∷ ts) = since now t ∷ all_since now ts

-- the ages at a tick of SDUs that were accepted at these, where so many in front are 65,535 ticks old
abbrev pub ages_at : ℕ → ℕ → List ℕ → List ℕ
ages_at zero now ts = all_since now ts
ages_at (suc n) now [] = []
ages_at (suc n) now (t ∷ ts) = 65535 ∷ ages_at n now ts

-- none is older than the one in front of it
abbrev pub AreFalling : ℕ → List ℕ → Type 0
AreFalling most [] = Unit {0}
AreFalling most (a ∷ ages) = (a ≤ most) × AreFalling a ages

-- just so many are 65,535 ticks old
pub record AreAges (oldest now : ℕ) (ts : List ℕ) : Type 0 where
  pub within : oldest ≤ length ts
  pub falling : AreFalling 65535 (ages_at oldest now ts)
  pub younger : slice_index (ages_at oldest now ts) oldest < 65535

-- one tick older
abbrev pub aged : List ℕ → List ℕ
aged [] = []
aged (a ∷ ages) = min (a + 1) 65535 ∷ aged ages
