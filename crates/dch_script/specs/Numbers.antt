-- Numbers in a line: decimal digits, without sign or leading zero.
use Rattle.std.specs.Prelude.{◌+◌, ◌-◌, ◌*◌, ◌==◌, ◌&&◌, ℕ, List, [], ◌∷◌, Bool, false, not, Option, Some, None, if◌then◌else◌, nat_le}
use Rattle.std.specs.List.{list_all}

abbrev pub is_digit : ℕ → Bool
is_digit c = nat_le 48 c && nat_le c 57

-- the word is decimal digits, and the first is 0 only where it is the only one
abbrev pub is_numeral : List ℕ → Bool
is_numeral [] = false
is_numeral (c ∷ []) = is_digit c
is_numeral (c ∷ (d ∷ word)) = not (c == 48) && list_all is_digit (c ∷ (d ∷ word))

-- the number that digits write after those of another one
abbrev pub value_after : ℕ → List ℕ → ℕ
value_after number [] = number
value_after number (c ∷ word) = value_after (10 * number + (c - 48)) word

-- the number that a word writes, if it writes one that is no greater than `most`
unfoldable pub number_of : ℕ → List ℕ → Option ℕ
number_of most word = if is_numeral word && nat_le (value_after 0 word) most then Some (value_after 0 word) else None
