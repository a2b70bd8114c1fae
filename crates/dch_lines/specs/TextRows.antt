-- The rows of the text of lines.
use Rattle.std.specs.Prelude.{◌++◌, ℕ, List, [], ◌∷◌, codes}
use Rattle.dch_indication.specs.Lines.{Line}
use Rattle.dch_script.specs.LineText.{words_of}

-- the row of a line, with its line feed, and those of lines
abbrev pub row_of : Line → List ℕ
row_of line = words_of line ++ codes "\n"

abbrev pub rows_of : List Line → List (List ℕ)
rows_of [] = []
rows_of (line ∷ lines) = row_of line ∷ rows_of lines
