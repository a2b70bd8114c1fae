-- A value V of code and what it stands for: a state S of a node's definition, and the list of what happened at the
-- node.
use Rattle.std.specs.Prelude.{◌≡◌, ◌++◌, List, [], ◌∷◌}
use Rattle.dch_indication.specs.Told.{Told}
use Rattle.dch_node.specs.Lines.{Line}
use Rattle.dch_node.specs.Traces.{Reaches}
use Rattle.dch_node.specs.Values.{Output}

-- the value stands for what happened since opening, with the lines of all reports
pub record HasHistory {S E V : Type 0} (Steps : S → E → S → Output → Type 0) (Represents : S → V → Type 0)
    (Shows : Output → V → Type 0) (opened : S) (events : List E) (lines : List Line) (value : V) : Type 0 where
  pub state : S
  pub last : Output
  pub after : Reaches Steps opened events state last lines
  pub stands : Represents state value
  pub shows : Shows last value

-- a user is told of lines
abbrev pub Tells : {U : Type 0} → (U → Line → U → Type 0) → U → U → List Line → Type 0
Tells shows before after lines = Told shows before lines after

-- a user is told of lines of which something holds
pub record TellsSuch {U : Type 0} (shows : U → Line → U → Type 0) (Such : List Line → Type 0)
    (before after : U) : Type 0 where
  pub lines : List Line
  pub told : Tells shows before after lines
  pub such : Such lines

-- there is no line
abbrev pub AreNone : List Line → Type 0
AreNone lines = lines ≡ []

-- a step was taken from a state, the value shows what it sends, and whoever is told is told of its lines
pub record TakesStep {S E V : Type 0} (Steps : S → E → S → Output → Type 0) (Represents : S → V → Type 0)
    (Shows : Output → V → Type 0) (old : S) (event : E) (value : V) (Says : List Line → Type 0) : Type 0 where
  pub next : S
  pub output : Output
  pub step : Steps old event next output
  pub stands : Represents next value
  pub shows : Shows output value
  pub tells : Says output.lines

-- and the value stands for one more event, with the lines of which whoever is told is told
pub record HasLongerHistory {S E V : Type 0} (Steps : S → E → S → Output → Type 0) (Represents : S → V → Type 0)
    (Shows : Output → V → Type 0) (opened : S) (events : List E) (lines : List Line) (event : E) (value : V)
    (Says : List Line → Type 0) : Type 0 where
  pub own : List Line
  pub stands : HasHistory Steps Represents Shows opened (events ++ event ∷ []) (lines ++ own) value
  pub tells : Says own
