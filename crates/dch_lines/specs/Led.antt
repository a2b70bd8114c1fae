-- The lines of a leg, each led by the leg's number.
use Rattle.std.specs.Prelude.{ℕ, List, [], ◌∷◌, ◌++◌, Option, Some, None, codes, decimal}
use Rattle.dch_script.specs.Lines.{lines_of}

-- the words that lead a line of leg k, and of no leg
unfoldable pub lead : ℕ → List ℕ
lead k = codes "leg " ++ (decimal k ++ codes " ")

abbrev pub lead_of : Option ℕ → List ℕ
lead_of None = []
lead_of (Some k) = lead k

abbrev pub led_lines : ℕ → List (List ℕ) → List ℕ
led_lines k [] = []
led_lines k (line ∷ lines) = (lead k ++ line) ++ led_lines k lines

-- a text of whole lines, each led where they are those of a leg
abbrev pub led : Option ℕ → List ℕ → List ℕ
led None text = text
led (Some k) text = led_lines k (lines_of text)
