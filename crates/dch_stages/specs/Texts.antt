-- The lines in which stages are shown, each with its line feed.
use Rattle.std.specs.Prelude.{ℕ, zero, suc, List, [], ◌++◌, codes, decimal}

-- a word, and the bits or cells behind it
abbrev pub named_text : List ℕ → List ℕ → List ℕ
named_text word shown = word ++ codes " " ++ shown ++ codes "\n"

-- the same of part n
abbrev pub numbered_text : List ℕ → ℕ → List ℕ → List ℕ
numbered_text word n shown = word ++ codes " " ++ decimal n ++ codes " " ++ shown ++ codes "\n"

-- and of radio frame n of the TTI of channel i
abbrev pub placed_text : List ℕ → ℕ → ℕ → List ℕ → List ℕ
placed_text word i n shown = word ++ codes " " ++ decimal i ++ codes " " ++ decimal n ++ codes " " ++ shown ++
    codes "\n"

-- the first n lines of a text
unfoldable pub lines_to : (ℕ → List ℕ) → ℕ → List ℕ
lines_to line zero = []
lines_to line (suc n) = lines_to line n ++ line n
