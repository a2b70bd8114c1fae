-- What a run of the command `pair` does.
use Rattle.std.specs.Prelude.{◌≡◌, ℕ, List, ◌∷◌, ◌++◌, Option, None}
use Rattle.dch_io.specs.Ends.{End}
use Rattle.dch_lines.specs.LineTexts.{HandlesLines, IsFaulty}
use Rattle.dch_lines.specs.declared.stop.LineFault.TheVariants.{Malformed}
use Rattle.dch_paircmd.specs.Ends.{Ends}
use Rattle.dch_paircmd.specs.Rules.{pair_lines}
use Rattle.dch_script.specs.declared.event.LineError.{LineError}
use Rattle.dch_check.specs.declared.status.Status.{Status}
use Rattle.dch_top.specs.LineRuns.{RunsLines}

-- a run of `pair`: its first line opens the ends
abbrev pub RunsPair : End → End → Status → Type 0
RunsPair source sink status = RunsLines pair_lines None source sink status

-- no line of them is refused in a state to which those before it lead
abbrev pub ArePairLines : List (List ℕ) → Type 0
ArePairLines lines = (good later : List (List ℕ)) (line : List ℕ) (state : Option Ends) (text : List ℕ)
    (why : LineError) → lines ≡ good ++ (line ∷ later) → HandlesLines pair_lines None good state text
    → IsFaulty pair_lines state line (Malformed why) → ⊥
