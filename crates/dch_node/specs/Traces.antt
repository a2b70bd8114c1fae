-- A history of a node, whatever its states S, its events E and its steps are: one step for each event.
use Rattle.std.specs.Prelude.{◌≡◌, ◌++◌, List, [], ◌∷◌}
use Rattle.dch_node.specs.Lines.{Line}
use Rattle.dch_node.specs.Values.{Output, no_output}

-- a step, and what comes after it: its state and output begin the rest, whose lines follow
pub record TraceStep {S E : Type 0} (Steps : S → E → S → Output → Type 0) (old : S) (event : E)
    (Rest : S → Output → List Line → Type 0) (lines : List Line) : Type 0 where
  pub next : S
  pub output : Output
  pub rest : List Line
  pub step : Steps old event next output
  pub later : Rest next output rest
  pub reported : lines ≡ output.lines ++ rest

-- the events lead from a state to another one with these lines in all; last is the output of the last step, or the one
-- before them
abbrev pub Trace : {S E : Type 0} → (S → E → S → Output → Type 0) → S → Output → List E → S → Output → List Line
    → Type 0
Trace Steps old output [] new last lines = (new ≡ old) × (last ≡ output) × (lines ≡ [])
Trace Steps old output (event ∷ later) new last lines =
    TraceStep Steps old event (λ next now rest. Trace Steps next now later new last rest) lines

-- the events lead from the state at opening, at which nothing was sent, to a state
abbrev pub Reaches : {S E : Type 0} → (S → E → S → Output → Type 0) → S → List E → S → Output → List Line → Type 0
Reaches Steps opened events state last lines = Trace Steps opened no_output events state last lines
