-- Lines that are added to a report.
use Rattle.std.specs.Prelude.{◌≡◌, ◌++◌, ℕ, List, [], ◌∷◌}
use Rattle.dch_indication.specs.Lines.{Line}
use Rattle.dch_script.specs.Held.{Held}
use Rattle.dch_script.specs.LineText.{text_of}
use Rattle.dch_script.specs.Putting.{Puts}

-- what a line makes of a report: its text stands behind what was held, cut where the room ends
abbrev pub ShowsLine : Held → Line → Held → Type 0
ShowsLine old line new = Puts old (text_of (line ∷ [])) new

-- a text goes on by that of lines
abbrev pub AddsLines : List ℕ → List ℕ → List Line → Type 0
AddsLines before after lines = after ≡ before ++ text_of lines
