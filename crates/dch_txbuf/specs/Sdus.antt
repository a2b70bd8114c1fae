-- SDUs in blocks of 64 octets, each in blocks of its own.
use Rattle.std.specs.Prelude.{◌≡◌, ◌+◌, ◌%◌, ◌<◌, ◌≤◌, ℕ, List, [], ◌∷◌, drop, length, take}
use Rattle.circular_buffer.specs.Buffer.{Buffer}
use Rattle.dch_txbuf.specs.declared.sdu.Sdu.{Sdu}
use Rattle.dch_txbuf.specs.Chunks.{AreWhole, blocks_for, joined}

abbrev pub no_sdu : Sdu
no_sdu = record { first = 0; octets = 0 }

-- the SDUs that blocks hold
abbrev pub sdus_of : List Sdu → List (List ℕ) → List (List ℕ)
sdus_of [] blocks = []
sdus_of (s ∷ ss) blocks = take s.octets (joined blocks) ∷ sdus_of ss (drop (blocks_for s.octets) blocks)

-- how many blocks SDUs take
abbrev pub blocks_in : List (List ℕ) → ℕ
blocks_in [] = 0
blocks_in (u ∷ us) = blocks_for (length u) + blocks_in us

-- the same of SDUs as they are kept
abbrev pub blocks_of : List Sdu → ℕ
blocks_of [] = 0
blocks_of (s ∷ ss) = blocks_for s.octets + blocks_of ss

-- each has 1 to 1,500 octets
abbrev pub AreSized : List Sdu → Type 0
AreSized [] = Unit {0}
AreSized (s ∷ ss) = (1 ≤ s.octets) × ((s.octets ≤ 1500) × AreSized ss)

-- each begins where the one before ends, counted up to 65,536
abbrev pub ArePlaced : ℕ → List Sdu → Type 0
ArePlaced at [] = Unit {0}
ArePlaced at (s ∷ ss) = (s.first ≡ at % 65536) × ArePlaced (at + blocks_for s.octets) ss

-- a row of blocks, the SDUs in it, and how many blocks left before
pub record IsStored (row : Buffer (List ℕ)) (sdus : Buffer Sdu) (freed : ℕ) : Type 0 where
  pub whole : AreWhole row.items
  pub sized : AreSized sdus.items
  pub placed : ArePlaced freed sdus.items
  pub filled : length row.items ≡ blocks_of sdus.items
  pub fits : length row.items ≤ row.capacity
  pub few : row.capacity ≤ 65535
  pub room : sdus.capacity ≡ row.capacity
  pub small : freed < 65536
