-- Runs of three nodes: what happens between radio frames, and radio frames, one after another, with the lines of all.
use Rattle.std.specs.Prelude.{◌≡◌, ◌++◌, List, [], ◌∷◌}
use Rattle.dch_node.specs.Lines.{Line}
use Rattle.dch_linkcmd.specs.Events.{Event as LinkEvent, Happens}
use Rattle.dch_linkcmd.specs.LinkLink.{LinkState}
use Rattle.dch_runlaw.specs.Frames.{IsFrame}

-- a unit is offered, a combination is blocked or free, or damage waits; or a radio frame passes
pub data Event : Type 0 where
  Between : (event : LinkEvent) → Event
  Frame : Event

-- a radio frame, after which no damage waits
pub record PassesFrame (old new : LinkState) (lines : List Line) : Type 0 where
  pub frame : IsFrame old new lines
  pub damage : new.damage ≡ []

abbrev pub Steps : LinkState → Event → LinkState → List Line → Type 0
Steps old (Between event) new lines = Happens old event new lines
Steps old Frame new lines = PassesFrame old new lines

-- an event, and what comes after it
pub record RunStep (Rest : LinkState → List Line → Type 0) (old : LinkState) (event : Event)
    (lines : List Line) : Type 0 where
  pub next : LinkState
  pub own : List Line
  pub rest : List Line
  pub step : Steps old event next own
  pub later : Rest next rest
  pub reported : lines ≡ own ++ rest

-- the events lead from a state to another one with these lines in all
abbrev pub Runs : LinkState → List Event → LinkState → List Line → Type 0
Runs old [] new lines = (new ≡ old) × (lines ≡ [])
Runs old (event ∷ events) new lines = RunStep (λ next rest. Runs next events new rest) old event lines
