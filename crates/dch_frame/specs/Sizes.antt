-- The sizes of uplink radio frames (TS 25.212 4.2.7.1, 4.2.10): one code of 150 to 9,600 cells, or up to six of 9,600.
use Rattle.std.specs.Prelude.{◌≡◌, ◌<◌, ◌%◌, ◌⊎◌, ℕ, min}

-- a code can have so many cells
abbrev pub IsCodeLength : ℕ → Type 0
IsCodeLength n = (n ≡ 150) ⊎ ((n ≡ 300) ⊎ ((n ≡ 600) ⊎ ((n ≡ 1200) ⊎ ((n ≡ 2400) ⊎ ((n ≡ 4800) ⊎ (n ≡ 9600))))))

-- so many cells are whole codes, or none
pub record IsFrameSize (cells : ℕ) : Type 0 where
  pub code : 0 < cells → IsCodeLength (min cells 9600)
  pub whole : cells % min cells 9600 ≡ 0
