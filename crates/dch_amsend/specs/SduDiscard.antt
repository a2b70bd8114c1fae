-- The SDUs that a sender of the acknowledged mode holds: how old they are, and which are discarded (TS 25.322 9.7.3).
use Rattle.std.specs.Prelude.{◌+◌, ◌-◌, ◌^◌, ◌++◌, ℕ, List, [], ◌∷◌, drop, length, min, slice_index}
use Rattle.dch_amsend.specs.Ages.{aged}

pub record SduDiscard : Type 0 where
  pub ages : List ℕ  -- in ticks, at most 65,535, the oldest SDU first
  pub most : ℕ  -- how many SDUs there may be
  pub passed : ℕ  -- how many in front are discarded
  pub discarded : ℕ  -- since opening

-- the age of the SDU at a place, 0 past the end
abbrev pub age_at : SduDiscard → ℕ → ℕ
age_at h i = slice_index h.ages i

-- no SDU is held
abbrev pub no_sdu_held : ℕ → SduDiscard
no_sdu_held most = record { ages = []; most = most; passed = 0; discarded = 0 }

-- one more is accepted
abbrev pub with_sdu : SduDiscard → SduDiscard
with_sdu h = record h { ages = h.ages ++ 0 ∷ [] }

-- so many in front leave
abbrev pub without_front : ℕ → SduDiscard → SduDiscard
without_front sdus h = record h { ages = drop sdus h.ages; passed = h.passed - sdus }

-- one tick
abbrev pub one_tick_older : SduDiscard → SduDiscard
one_tick_older h = record h { ages = aged h.ages }

-- a count that ends at the greatest number of 64 bits
unfoldable pub capped : ℕ → ℕ
capped n = min n (2 ^ 64 - 1)

-- the SDUs in front, so many, are discarded
abbrev pub discarded_to : ℕ → SduDiscard → SduDiscard
discarded_to to h = record h { passed = to; discarded = capped (h.discarded + (to - h.passed)) }

-- the last ones stay, so many, and none of these is discarded
abbrev pub restarted_discards : ℕ → SduDiscard → SduDiscard
restarted_discards kept h = record h { ages = drop (length h.ages - kept) h.ages; passed = 0 }
