-- Patterns by the bits before and after rate matching (TS 25.212 4.2.7.1.2, 4.2.7.2).
use Rattle.std.specs.Prelude.{◌+◌, ◌-◌, ◌*◌, ◌%◌, ◌==◌, ◌||◌, ℕ, pos, ◌-ℤ◌, if◌then◌else◌, nat_lt}
use Rattle.std.specs.Int.{int_rem_euclid}
use Rattle.std.specs.Int.RustNames.{unsigned_abs}
use Rattle.dch_inter.specs.Places.{first_column}
use Rattle.dch_frame.specs.declared.pattern.Steps.{Steps}
use Rattle.dch_frame.specs.declared.pattern.Kind.{Kind}
use Rattle.dch_frame.specs.declared.pattern.Kind.TheVariants.{Same, Repeat, Puncture}
use Rattle.dch_frame.specs.declared.pattern.Pattern.{Pattern}
use Rattle.dch_frame.specs.Shifts.{average_distance, column_shift}

-- |dN|, where n bits become `sent`
abbrev pub change : ℕ → ℕ → ℕ
change n sent = if nat_lt n sent then sent - n else n - sent

-- the numbers of the error counter: 2N is added and 2|dN| taken off
abbrev pub steps_of : ℕ → ℕ → ℕ → Steps
steps_of n sent e_ini = record { e_ini = e_ini; e_plus = 2 * n; e_minus = 2 * change n sent }

-- what is done with n bits so that `sent` are left: nothing where there are none or as many, else repetition or
-- puncturing
abbrev pub matched : ℕ → ℕ → ℕ → Kind
matched n sent e_ini = if (n == 0 || sent == n) then Same
    else (if nat_lt n sent then Repeat (steps_of n sent e_ini) else Puncture (steps_of n sent e_ini))

-- dN mod n, which is not negative
abbrev pub remainder : ℕ → ℕ → ℕ
remainder n sent = unsigned_abs (int_rem_euclid (pos sent -ℤ pos n) (pos n))

-- the counter's start in the frame that carries a column
abbrev pub frame_start : ℕ → ℕ → ℕ → ℕ → ℕ
frame_start n sent frames i = (2 * column_shift (average_distance n (remainder n sent)) frames i * change n sent + 1) %
    (2 * n)

-- the pattern of frame `at` of a TTI, which carries a column of the first interleaver
unfoldable pub frame_pattern : ℕ → ℕ → ℕ → ℕ → Pattern
frame_pattern n sent frames at = record {
  len = n;
  kind = matched n sent (frame_start n sent frames (first_column frames at));
}
