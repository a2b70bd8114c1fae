-- The words of a text, which are parted by one space each.
use Rattle.std.specs.Prelude.{◌==◌, ℕ, List, [], ◌∷◌, ◌++◌, Bool, Option, Some, None, if◌then◌else◌}
use Rattle.std.specs.Borrow.{Bor}

abbrev pub is_space : ℕ → Bool
is_space c = c == 32

-- the words of a text after the front of the first word
abbrev pub words_from : List ℕ → List ℕ → List (List ℕ)
words_from front [] = front ∷ []
words_from front (c ∷ text) = if is_space c then front ∷ words_from [] text else words_from (front ++ c ∷ []) text

-- the words of a line, which spaces separate
abbrev pub words_of : List ℕ → List (List ℕ)
words_of text = words_from [] text

-- the words of what follows a word, if anything does
abbrev pub later_words : Option (Bor (List ℕ)) → List (List ℕ)
later_words None = []
later_words (Some text) = words_of text.now
