-- The words of the program.
use Rattle.std.specs.Prelude.{◌≡◌, ◌≢◌, ℕ, List, [], ◌∷◌, Option, Some, None, codes}
use Rattle.dch_margin.specs.declared.telling.Telling.{Telling}
use Rattle.dch_margin.specs.declared.telling.Telling.TheVariants.{Margins, WorstCases}

-- what words ask for, if they do
abbrev pub AskFor : List (List ℕ) → Option Telling → Type 0
AskFor words (Some Margins) = words ≡ []
AskFor words (Some WorstCases) = words ≡ codes "--worst" ∷ []
AskFor words None = (words ≢ []) × (words ≢ codes "--worst" ∷ [])
