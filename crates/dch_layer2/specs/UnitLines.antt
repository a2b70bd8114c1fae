-- The lines on units that ended.
use Rattle.std.specs.Prelude.{ℕ, List, [], ◌∷◌, Bool, true, false, if◌then◌else◌, length, nat_lt}
use Rattle.dch_types.specs.declared.channel.Dir.{Dir}
use Rattle.dch_indication.specs.Lines.{Line, Got, Overlong}

-- a unit that ended is handed up, or is too long
abbrev pub unit_line : Dir → ℕ → List ℕ → Line
unit_line dir b unit = if nat_lt 1500 (length unit) then Overlong dir b else Got dir b unit

abbrev pub unit_lines : Dir → ℕ → List (List ℕ) → List Line
unit_lines dir b [] = []
unit_lines dir b (unit ∷ units) = unit_line dir b unit ∷ unit_lines dir b units

-- one line, or none
abbrev pub line_if : Bool → Line → List Line
line_if true line = line ∷ []
line_if false line = []
