-- Sums over the first of some numbers.
use Rattle.std.specs.Prelude.{ℕ, zero, suc, ◌+◌}

-- the sum of the first n of some numbers
unfoldable pub total : (ℕ → ℕ) → ℕ → ℕ
total number zero = 0
total number (suc n) = total number n + number n
