-- The statuses of a call, as enum dch_status of include/dch.h numbers them.
use Rattle.std.specs.Prelude.{◌≡◌, ◌<◌, ◌⊎◌, ℕ}

abbrev pub done : ℕ
done = 0

abbrev pub no_memory : ℕ
no_memory = 1

abbrev pub busy : ℕ
busy = 2

abbrev pub closed : ℕ
closed = 3

abbrev pub other_kind : ℕ
other_kind = 4

abbrev pub bad_code : ℕ
bad_code = 5

abbrev pub bad_size : ℕ
bad_size = 6

abbrev pub bad_letter : ℕ
bad_letter = 7

abbrev pub refused : ℕ
refused = 8

abbrev pub short : ℕ
short = 9

abbrev pub not_loaded : ℕ
not_loaded = 10

abbrev pub bad_tti : ℕ
bad_tti = 11

abbrev pub queue_full : ℕ
queue_full = 12

abbrev pub nothing : ℕ
nothing = 13

abbrev pub not_due : ℕ
not_due = 14

-- a call did not do what it is for
abbrev pub IsRefused : ℕ → Type 0
IsRefused status = 0 < status

-- a call that takes memory gives this status, or memory is lacking
abbrev pub IsUnlessMemory : ℕ → ℕ → Type 0
IsUnlessMemory wanted status = (status ≡ wanted) ⊎ (status ≡ no_memory)
