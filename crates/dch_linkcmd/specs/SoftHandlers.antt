-- What the handler of `soft` has, and the runs that it stands for.
use Rattle.std.specs.Prelude.{◌≡◌, ◌≤◌, ◌+◌, ◌*◌, ℕ, List, Bool, length}
use Rattle.dch_accept.specs.Plans.{Planned}
use Rattle.dch_io.specs.Pieces.{LIMIT}
use Rattle.dch_node.specs.Lines.{Line}
use Rattle.dch_script.specs.LineText.{text_of}
use Rattle.dch_link.specs.SoftPassing.{IsStage}
use Rattle.dch_link.specs.Soft.{SoftState}
use Rattle.dch_link.specs.SoftNodes.{IsSoftOf, Represents}
use Rattle.dch_link.specs.SoftValues.{Parts}
use Rattle.dch_link.specs.declared.soft_stage.Stage.{Stage}
use Rattle.dch_link.specs.declared.soft_stage.Stage.TheVariants.{RncTick}
use Rattle.dch_linkcmd.specs.SoftRun.{Run}

-- the configuration, the nodes, whether the lines of frames are left out, the next stage, how many radio frames are
-- left of a line and how many have passed, and how many lines asked for radio frames
pub record Handler : Type 0 where
  pub accepted : Planned
  pub soft : Parts
  pub quiet : Bool
  pub stage : Stage
  pub left : ℕ
  pub frames : ℕ
  pub lines : ℕ

-- what a handler keeps at any time
pub record IsReady (handler : Handler) : Type 0 where
  pub opened : IsSoftOf handler.accepted handler.soft
  pub stage : IsStage (length handler.soft.legs) handler.stage
  pub left : handler.left ≤ 100000
  pub lines : handler.lines ≤ LIMIT
  pub few : handler.frames + handler.left ≤ 100000 * handler.lines

-- a handler stands for a run
pub record RepresentsRun (run : Run) (handler : Handler) : Type 0 where
  pub quiet : run.quiet ≡ handler.quiet
  pub stage : run.stage ≡ handler.stage
  pub left : run.left ≡ handler.left
  pub frames : run.frames ≡ handler.frames
  pub stands : Represents handler.accepted run.first run.soft handler.soft

-- something was done from a state of the nodes, and what is shown of its lines is written
pub record Shows {P : Type 0} (writes : P → List ℕ → P → Type 0) (planned : Planned) (first : ℕ)
    (shows : List ℕ → List ℕ) (Does : SoftState → List Line → Type 0) (parts : Parts) (before after : P) : Type 0 where
  pub next : SoftState
  pub lines : List Line
  pub does : Does next lines
  pub stands : Represents planned first next parts
  pub wrote : writes before (shows (text_of lines)) after

-- what a handler keeps between two lines: no radio frame is on or left, and it stands for a run
pub record StandsBetween (handler : Handler) : Type 0 where
  pub ready : IsReady handler
  pub first : handler.stage ≡ RncTick
  pub left : handler.left ≡ 0
  pub run : Run
  pub stands : RepresentsRun run handler

pub ready_stands : (handler : Handler) → StandsBetween handler → (run : Run) × RepresentsRun run handler
ready_stands handler between = (between.run, between.stands)
