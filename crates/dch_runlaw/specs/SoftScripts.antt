-- What lines of `soft` make of the nodes: a run of what they say.
use Rattle.std.specs.Prelude.{◌≡◌, ◌+◌, ◌*◌, ◌++◌, ℕ, zero, suc, List, [], ◌∷◌, Bool, MatchBool}
use Rattle.dch_types.specs.declared.config.Config.{Config}
use Rattle.dch_lines.specs.LineTexts.{is_empty}
use Rattle.dch_node.specs.Lines.{Line}
use Rattle.dch_script.specs.LineText.{text_of}
use Rattle.dch_lines.specs.Shown.{shown}
use Rattle.dch_linkcmd.specs.SoftPassing.{leg_of}
use Rattle.dch_linkcmd.specs.soft_stage.Stage.TheVariants.{RncTick}
use Rattle.dch_lines.specs.Led.{led}
use Rattle.dch_linkcmd.specs.SoftLineEvents.{Frames, OneEvent, Said, Says}
use Rattle.dch_linkcmd.specs.SoftRun.{Run, config_of}
use Rattle.dch_runlaw.specs.SoftRuns.{Between, Move, Next, Point, Runs}

-- where a run of the command is
abbrev pub point_of : Run → Point
point_of run = record { soft = run.soft; stage = run.stage }

-- so many stages
abbrev pub stages : ℕ → List Move
stages zero = []
stages (suc count) = Next ∷ stages count

-- what is said, as moves where there are so many legs
abbrev pub moves_of : ℕ → Said → List Move
moves_of legs (OneEvent event) = Between event ∷ []
moves_of legs (Frames count) = stages ((10 + 18 * legs) * count)

pub record SaysMoves (legs : ℕ) (config : Config) (line : List ℕ) (moves : List Move) : Type 0 where
  pub said : Said
  pub says : Says legs config line said
  pub are : moves ≡ moves_of legs said

-- an empty line says nothing
abbrev pub LineSays : ℕ → Config → List ℕ → List Move → Type 0
LineSays legs config line moves = MatchBool (is_empty line) (moves ≡ []) (SaysMoves legs config line moves)

-- a line, and the others
pub record SaysFirst (legs : ℕ) (config : Config) (line : List ℕ) (Rest : List Move → Type 0)
    (moves : List Move) : Type 0 where
  pub own : List Move
  pub rest : List Move
  pub first : LineSays legs config line own
  pub later : Rest rest
  pub all : moves ≡ own ++ rest

-- lines of a script of `soft` say these moves: events and stages of radio frames
abbrev pub AreSaid : ℕ → Config → List (List ℕ) → List Move → Type 0
AreSaid legs config [] moves = moves ≡ []
AreSaid legs config (line ∷ lines) moves = SaysFirst legs config line (AreSaid legs config lines) moves

-- what is shown of the lines of a run in soft handover
abbrev pub shown_in : Bool → (moves : List Move) → (old new : Point) → (lines : List Line) → Runs old moves new lines
    → List ℕ
shown_in quiet [] old new lines run = []
shown_in quiet (Between event ∷ moves) old new lines run = shown quiet (text_of run.own)
    ++ shown_in quiet moves run.next new run.rest run.later
shown_in quiet (Next ∷ moves) old new lines run = led (leg_of old.stage) (shown quiet (text_of run.own))
    ++ shown_in quiet moves run.next new run.rest run.later

-- between two lines no radio frame is on
pub record IsAtRest (run : Run) : Type 0 where
  pub stage : run.stage ≡ RncTick
  pub left : run.left ≡ 0

-- the lines lead the nodes through a run of what they say, and this is shown of its lines
pub record IsRunOf (old : Run) (lines : List (List ℕ)) (new : Run) (text : List ℕ) : Type 0 where
  pub moves : List Move
  pub said : AreSaid old.soft.count (config_of old) lines moves
  pub reported : List Line
  pub run : Runs (point_of old) moves (point_of new) reported
  pub shows : text ≡ shown_in old.quiet moves (point_of old) (point_of new) reported run
  pub quiet : new.quiet ≡ old.quiet
  pub rests : IsAtRest new
