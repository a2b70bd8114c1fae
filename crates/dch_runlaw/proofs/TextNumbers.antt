-- Numbers in decimal, up to a line feed.
use Rattle.std.proofs.Common.{◌≡◌, ◌<◌, ◌^◌, ◌∙◌, ℕ, [], ◌∷◌, ◌++◌, arith}
use Rattle.std.specs.Prelude.{◌==◌, decimal}
use Rattle.dch_runlaw.specs.Rows.{starts_with}
use Rattle.dch_runlaw.proofs.Rows.{same_decimal, to_letter}
use Rattle.dch_lines.proofs.TextRows.{decimal_lacks}

-- rows that end with a number are the same where the numbers are
pub decimal_ends : (b c : ℕ) → b < 2 ^ 64 → c < 2 ^ 64 → starts_with (decimal b ++ 10 ∷ []) (decimal c ++ 10 ∷ []) ≡ (c == b)
decimal_ends b c low high = to_letter 10 (decimal b) (decimal c) [] (decimal_lacks 10 b (omega arith)) (decimal_lacks 10 c (omega arith)) ∙ same_decimal b c low high
