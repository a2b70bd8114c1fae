-- What the handler of `link` has, and the runs that it stands for.
use Rattle.std.specs.Prelude.{◌≡◌, ◌≤◌, ◌+◌, ◌*◌, ◌%◌, ℕ, List, Bool, Option, IfSome}
use Rattle.dch_accept.specs.Plans.{Planned}
use Rattle.dch_io.specs.Pieces.{LIMIT}
use Rattle.dch_node.specs.Lines.{Line}
use Rattle.dch_script.specs.LineText.{text_of}
use Rattle.dch_link.specs.Link.{LinkState}
use Rattle.dch_link.specs.Passing.{IsStage}
use Rattle.dch_link.specs.LinkNodes.{HasNext, IsLinkOf, Represents}
use Rattle.dch_link.specs.Values.{Nodes}
use Rattle.dch_link.specs.declared.stage.Stage.{Stage}
use Rattle.dch_link.specs.declared.stage.Stage.TheVariants.{RncTick, IubDown, RadioDown, UeTick, RadioUp, IubUp}
use Rattle.dch_linkcmd.specs.Run.{Run}
use Rattle.dch_lines.specs.Shown.{shown}
use Rattle.dch_lines.specs.declared.later.Later.{Later}

-- the configuration that is active, the second one where it is still to come, the nodes, whether the lines of frames
-- are left out, the next stage, how many radio frames are left of a line and how many have passed, and how many lines
-- asked for radio frames
pub record Handler : Type 0 where
  pub accepted : Planned
  pub later : Option Later
  pub link : Nodes
  pub quiet : Bool
  pub stage : Stage
  pub left : ℕ
  pub frames : ℕ
  pub lines : ℕ

-- whether 10 ms have passed at the terminal in the radio frame that is on
abbrev pub ticked : Stage → ℕ
ticked RncTick = 0
ticked (IubDown set) = 0
ticked RadioDown = 0
ticked UeTick = 0
ticked RadioUp = 1
ticked (IubUp set) = 1

-- the nodes can go on with the second configuration, and all TTIs start with the radio frame from which that is active
pub record IsPrepared (accepted : Planned) (link : Nodes) (later : Later) : Type 0 where
  pub next : HasNext accepted later.accepted link
  pub whole : later.frame % 8 ≡ 0

-- what a handler keeps at any time. The CFN of the terminal goes on by the radio frames, from a multiple of 8
pub record IsReady (handler : Handler) : Type 0 where
  pub opened : IsLinkOf handler.accepted handler.link
  pub next : IfSome handler.later (IsPrepared handler.accepted handler.link)
  pub stage : IsStage handler.stage
  pub cfn : handler.link.ue.cfn % 8 ≡ (handler.frames + ticked handler.stage) % 8
  pub left : handler.left ≤ 100000
  pub lines : handler.lines ≤ LIMIT
  pub few : handler.frames + handler.left ≤ 100000 * handler.lines

-- a handler stands for a run
pub record RepresentsRun (run : Run) (handler : Handler) : Type 0 where
  pub second : run.second ≡ handler.later
  pub quiet : run.quiet ≡ handler.quiet
  pub stage : run.stage ≡ handler.stage
  pub left : run.left ≡ handler.left
  pub frames : run.frames ≡ handler.frames
  pub stands : Represents run.began handler.accepted run.first run.link handler.link

-- something was done from a state of the nodes, and what is shown of its lines is written
pub record Shows {P : Type 0} (writes : P → List ℕ → P → Type 0) (began planned : Planned) (first : ℕ) (quiet : Bool)
    (Does : LinkState → List Line → Type 0) (nodes : Nodes) (before after : P) : Type 0 where
  pub next : LinkState
  pub lines : List Line
  pub does : Does next lines
  pub stands : Represents began planned first next nodes
  pub wrote : writes before (shown quiet (text_of lines)) after

-- what a handler keeps between two lines: no radio frame is on or left, and it stands for a run
pub record StandsBetween (handler : Handler) : Type 0 where
  pub ready : IsReady handler
  pub first : handler.stage ≡ RncTick
  pub left : handler.left ≡ 0
  pub run : Run
  pub stands : RepresentsRun run handler

pub ready_stands : (handler : Handler) → StandsBetween handler → (run : Run) × RepresentsRun run handler
ready_stands handler between = (between.run, between.stands)
