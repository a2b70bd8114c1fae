-- The rules of the command `soft`: a line is something that happens between two radio frames, or so many radio frames,
-- stage by stage.
use Rattle.std.specs.Prelude.{◌≡◌, ℕ, List, Err, ◌<◌, ◌+◌, Bool, false}
use Rattle.dch_script.specs.Soft.{soft_meaning}
use Rattle.dch_script.specs.declared.event.LineError.{LineError}
use Rattle.dch_lines.specs.Semantics.{Semantics}
use Rattle.dch_node.specs.Lines.{Line}
use Rattle.dch_script.specs.LineText.{text_of}
use Rattle.dch_link.specs.SoftEvents.{Event, Happens}
use Rattle.dch_link.specs.SoftPassing.{leg_of}
use Rattle.dch_link.specs.Soft.{SoftState}
use Rattle.dch_link.specs.SoftStages.{AtStage}
use Rattle.dch_lines.specs.LineTexts.{closing}
use Rattle.dch_lines.specs.Shown.{shown}
use Rattle.dch_lines.specs.Led.{led}
use Rattle.dch_linkcmd.specs.SoftLineEvents.{Frames, OneEvent, Said, Says}
use Rattle.dch_link.specs.SoftPassing.{stages_left}
use Rattle.dch_link.specs.declared.soft_stage.Stage.TheVariants.{RncTick}
use Rattle.dch_linkcmd.specs.Stepping.{LineFront, LineSteps, Resumes, Stepped}
use Rattle.dch_linkcmd.specs.SoftRun.{Run, config_of, passed, steps_left}

-- something happens between two radio frames, and what is shown of its lines
pub record TakesEvent (old : Run) (event : Event) (new : Run) (text : List ℕ) : Type 0 where
  pub soft : SoftState
  pub lines : List Line
  pub happens : Happens old.soft event soft lines
  pub goes_on : new ≡ record old { soft = soft }
  pub shows : text ≡ shown old.quiet (text_of lines)

-- the next stage of a radio frame passes, and the lines that are shown of a leg are led by its number
pub record PassesStage (old new : Run) (text : List ℕ) : Type 0 where
  pub soft : SoftState
  pub lines : List Line
  pub passes : AtStage old.stage old.soft soft lines
  pub goes_on : new ≡ passed old soft
  pub shows : text ≡ led (leg_of old.stage) (shown old.quiet (text_of lines))

-- what a line does first
abbrev pub Takes : Said → Run → Run → List ℕ → Type 0
Takes (OneEvent event) old new text = TakesEvent old event new text
Takes (Frames count) old new text = PassesStage (record old { left = count }) new text

pub record TakesLine (old : Run) (line : List ℕ) (new : Run) (text : List ℕ) : Type 0 where
  pub said : Said
  pub says : Says old.soft.count (config_of old) line said
  pub takes : Takes said old new text

-- a line is malformed for the reason that its words tell
abbrev pub RefusesLine : Run → List ℕ → LineError → Type 0
RefusesLine run line why = soft_meaning run.soft.count (config_of run) line ≡ Err why

-- the stages that are left of a line pass one after another
abbrev pub soft_steps : Stepped Run
soft_steps = record {
  handles = TakesLine;
  remaining = λ run. steps_left run.soft.count run.stage run.left;
  resumes = PassesStage;
}

-- all stages of a radio frame pass
abbrev pub PassesFrame : Run → Run → List ℕ → Type 0
PassesFrame old new text = Resumes soft_steps (stages_left old.soft.count RncTick) old new text

-- between two radio frames a line is left off, and none is left of it then
pub record LeavesOff (last new : Run) : Type 0 where
  pub between : last.stage ≡ RncTick
  pub none : new ≡ record last { left = 0 }

-- the radio frames that are left pass, or fewer where no more can be written, and none is left then
pub record PassesFrames (broken : Bool) (old new : Run) (text : List ℕ) : Type 0 where
  pub count : ℕ
  pub some : 0 < count
  pub last : Run
  pub resumes : Resumes soft_steps count old last text
  pub left : count + steps_left last.soft.count last.stage last.left ≡ steps_left old.soft.count old.stage old.left
  pub ended : broken ≡ false → last.left ≡ 0
  pub ends : LeavesOff last new

-- a line is done with all its radio frames, or is left off behind some of them
abbrev pub soft_lines : Semantics Run
soft_lines = record {
  handles = LineSteps soft_steps;
  begins = LineFront soft_steps LeavesOff;
  refuses = RefusesLine;
  wants_memory = λ run line. ⊥;
  closing = λ run count. closing run.frames;
}
