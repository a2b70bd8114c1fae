-- The words after the first one, by how many a form has.
use Rattle.std.specs.Prelude.{ℕ, List, [], ◌∷◌, Result, Ok, Err}
use Rattle.std.specs.Borrow.{Bor}
use Rattle.dch_script.specs.declared.event.LineError.{LineError}
use Rattle.dch_script.specs.declared.event.LineError.TheVariants.{Count}
use Rattle.dch_script.specs.ParsedLine.{ParsedLine, ◌>>=◌}

-- what a form without further words says
abbrev pub alone : ParsedLine → List (List ℕ) → Result ParsedLine LineError
alone parsed [] = Ok parsed
alone parsed (word ∷ words) = Err Count

-- just one word
abbrev pub one : List (List ℕ) → Result (List ℕ) LineError
one [] = Err Count
one (a ∷ []) = Ok a
one (a ∷ (b ∷ words)) = Err Count

-- just two words
abbrev pub two : List (List ℕ) → Result (List ℕ × List ℕ) LineError
two [] = Err Count
two (a ∷ words) = do
  b ← one words
  Ok (a, b)

-- just three words
abbrev pub three : List (List ℕ) → Result (List ℕ × List ℕ × List ℕ) LineError
three [] = Err Count
three (a ∷ words) = do
  later ← two words
  Ok (a, later.0, later.1)

-- just four words
abbrev pub four : List (List ℕ) → Result (List ℕ × List ℕ × List ℕ × List ℕ) LineError
four [] = Err Count
four (a ∷ words) = do
  later ← three words
  Ok (a, later.0, later.1, later.2)

-- words that are lent, as plain lists
abbrev pub one_shown : Result (Bor (List ℕ)) LineError → Result (List ℕ) LineError
one_shown (Ok word) = Ok word.now
one_shown (Err error) = Err error

abbrev pub two_shown : Result (Bor (List ℕ) × Bor (List ℕ)) LineError → Result (List ℕ × List ℕ) LineError
two_shown (Ok words) = Ok (words.0.now, words.1.now)
two_shown (Err error) = Err error

abbrev pub three_shown : Result (Bor (List ℕ) × Bor (List ℕ) × Bor (List ℕ)) LineError
    → Result (List ℕ × List ℕ × List ℕ) LineError
three_shown (Ok words) = Ok (words.0.now, words.1.now, words.2.now)
three_shown (Err error) = Err error

abbrev pub four_shown : Result (Bor (List ℕ) × Bor (List ℕ) × Bor (List ℕ) × Bor (List ℕ)) LineError
    → Result (List ℕ × List ℕ × List ℕ × List ℕ) LineError
four_shown (Ok words) = Ok (words.0.now, words.1.now, words.2.now, words.3.now)
four_shown (Err error) = Err error
