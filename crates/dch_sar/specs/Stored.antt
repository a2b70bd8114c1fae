-- How units are kept: the octets of those that wait, and of the one in progress behind them, in one row.
use Rattle.std.specs.Prelude.{◌≡◌, ◌+◌, ◌≤◌, ℕ, List, [], ◌∷◌, length, take, drop}
use Rattle.dch_sar.specs.Taking.{Waiting}

abbrev pub total : List ℕ → ℕ
total [] = 0
total (n ∷ ns) = n + total ns

-- units of these sizes, cut from the row
abbrev pub cut : List ℕ → List ℕ → List (List ℕ)
cut [] octets = []
cut (n ∷ ns) octets = take n octets ∷ cut ns (drop n octets)

abbrev pub stored : List ℕ → List ℕ → Waiting
stored sizes octets = record { waiting = cut sizes octets; part = drop (total sizes) octets }

-- the row has the waiting units and so many octets of the one in progress
pub record IsStored (sizes octets : List ℕ) (part : ℕ) : Type 0 where
  pub whole : total sizes + part ≡ length octets
  pub small : part ≤ 1501
