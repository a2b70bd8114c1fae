-- A configuration that is refused, as C sees it.
use Rattle.std.specs.Prelude.{◌≡◌, ◌<◌, ◌⊎◌, ◌+◌, ◌-◌, ◌*◌, ◌++◌, ℕ, List, drop, length, slice_index_or}
use Rattle.dch_handle.specs.declared.refusal.Refusal.{Refusal}
use Rattle.dch_handle.specs.Statuses.{done, no_memory, refused, short}

-- the value of a digit
abbrev pub digit_at : List ℕ → ℕ → ℕ
digit_at line i = slice_index_or line i 48 - 48

-- the number of a refusal: the two digits behind `refused `
abbrev pub number_in : List ℕ → ℕ
number_in line = 10 * digit_at line 8 + digit_at line 9

-- a text is refused by a line that is told by its number and its length, and stands at the front of a buffer
pub record IsRefusedInto (Refuses : List ℕ → List ℕ → Type 0) (text before after : List ℕ)
    (refusal : Refusal) : Type 0 where
  pub line : List ℕ
  pub refuses : Refuses text line
  pub number : refusal.number ≡ number_in line
  pub long : refusal.length ≡ length line
  pub shown : after ≡ line ++ drop (length line) before

-- the line is longer than the buffer
pub record IsRefusedPast (Refuses : List ℕ → List ℕ → Type 0) (text before after : List ℕ)
    (refusal : Refusal) : Type 0 where
  pub line : List ℕ
  pub refuses : Refuses text line
  pub number : refusal.number ≡ number_in line
  pub long : refusal.length ≡ length line
  pub more : length before < length line
  pub same : after ≡ before

-- the statuses of a call that opens
abbrev pub IsOpening : ℕ → Type 0
IsOpening status = (status ≡ done) ⊎ ((status ≡ refused) ⊎ ((status ≡ short) ⊎ (status ≡ no_memory)))
