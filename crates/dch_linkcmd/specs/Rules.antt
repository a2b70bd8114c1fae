-- The rules of the command `link`: a line is something that happens between two radio frames, or so many radio frames,
-- stage by stage. With one of them a second configuration becomes active.
use Rattle.std.specs.Prelude.{◌≡◌, ◌<◌, ◌⊎◌, ◌+◌, ℕ, List, Bool, false, None, Option, Err}
use Rattle.dch_script.specs.Meaning.{meaning_in}
use Rattle.dch_script.specs.declared.event.Command.TheVariants.{Link as LinkLines}
use Rattle.dch_script.specs.declared.event.LineError.{LineError}
use Rattle.dch_lines.specs.Semantics.{Semantics}
use Rattle.dch_node.specs.Lines.{Line}
use Rattle.dch_script.specs.LineText.{text_of}
use Rattle.dch_link.specs.Changing.{Changes}
use Rattle.dch_link.specs.Events.{Event, Happens}
use Rattle.dch_link.specs.Link.{LinkState}
use Rattle.dch_link.specs.Stages.{AtStage}
use Rattle.dch_linkcmd.specs.LineEvents.{Frames, OneEvent, Said, Says}
use Rattle.dch_linkcmd.specs.Run.{Run, config_of, passed, steps_left}
use Rattle.dch_linkcmd.specs.Stepping.{LineFront, LineSteps, Resumes, Stepped}
use Rattle.dch_link.specs.declared.stage.Stage.{Stage}
use Rattle.dch_link.specs.declared.stage.Stage.TheVariants.{RncTick}
use Rattle.dch_lines.specs.LineTexts.{closing}
use Rattle.dch_lines.specs.Coming.{IsDue}
use Rattle.dch_lines.specs.Shown.{shown}
use Rattle.dch_lines.specs.declared.later.Later.{Later}

-- something happens between two radio frames, and what is shown of its lines
pub record TakesEvent (old : Run) (event : Event) (new : Run) (text : List ℕ) : Type 0 where
  pub link : LinkState
  pub lines : List Line
  pub happens : Happens old.link event link lines
  pub goes_on : new ≡ record old { link = link }
  pub shows : text ≡ shown old.quiet (text_of lines)

-- a second configuration is still to come, and this stage begins the radio frame from which it is active
pub record Begins (second : Option Later) (stage : Stage) (frames : ℕ) (later : Later) : Type 0 where
  pub due : IsDue second frames later
  pub first : stage ≡ RncTick

-- it becomes active at the nodes, and none is to come any more
pub record MakesChange (old new : Run) : Type 0 where
  pub later : Later
  pub begins : Begins old.second old.stage old.frames later
  pub link : LinkState
  pub changes : Changes later.accepted old.link link
  pub goes_on : new ≡ record old { link = link; second = None }

-- and where none is due nothing happens
pub record Waits (old new : Run) : Type 0 where
  pub undue : (later : Later) → ¬ Begins old.second old.stage old.frames later
  pub same : new ≡ old

abbrev pub MayChange : Run → Run → Type 0
MayChange old new = MakesChange old new ⊎ Waits old new

-- a stage of a radio frame passes
pub record PassesStage (old new : Run) (text : List ℕ) : Type 0 where
  pub link : LinkState
  pub lines : List Line
  pub passes : AtStage old.stage old.link link lines
  pub goes_on : new ≡ passed old link
  pub shows : text ≡ shown old.quiet (text_of lines)

-- the next stage passes, in the second configuration where that is due
pub record PassesNext (old new : Run) (text : List ℕ) : Type 0 where
  pub mid : Run
  pub changes : MayChange old mid
  pub passes : PassesStage mid new text

-- what a line does first
abbrev pub Takes : Said → Run → Run → List ℕ → Type 0
Takes (OneEvent event) old new text = TakesEvent old event new text
Takes (Frames count) old new text = PassesNext (record old { left = count }) new text

pub record TakesLine (old : Run) (line : List ℕ) (new : Run) (text : List ℕ) : Type 0 where
  pub said : Said
  pub says : Says (config_of old) line said
  pub takes : Takes said old new text

-- a line is malformed for the reason that its words tell
abbrev pub RefusesLine : Run → List ℕ → LineError → Type 0
RefusesLine run line why = meaning_in LinkLines (config_of run) line ≡ Err why

-- the stages that are left of a line pass one after another
abbrev pub link_steps : Stepped Run
link_steps = record { handles = TakesLine; remaining = λ run. steps_left run.stage run.left; resumes = PassesNext }

-- all stages of a radio frame pass
abbrev pub PassesFrame : Run → Run → List ℕ → Type 0
PassesFrame old new text = Resumes link_steps 20 old new text

-- between two radio frames a line is left off, and none is left of it then
pub record LeavesOff (last new : Run) : Type 0 where
  pub between : last.stage ≡ RncTick
  pub none : new ≡ record last { left = 0 }

-- the radio frames that are left pass, or fewer where no more can be written, and none is left then
pub record PassesFrames (broken : Bool) (old new : Run) (text : List ℕ) : Type 0 where
  pub count : ℕ
  pub some : 0 < count
  pub last : Run
  pub resumes : Resumes link_steps count old last text
  pub left : count + steps_left last.stage last.left ≡ steps_left old.stage old.left
  pub ended : broken ≡ false → last.left ≡ 0
  pub ends : LeavesOff last new

-- a line is done with all its radio frames, or is left off behind some of them
abbrev pub link_lines : Semantics Run
link_lines = record {
  handles = LineSteps link_steps;
  begins = LineFront link_steps LeavesOff;
  refuses = RefusesLine;
  wants_memory = λ run line. ⊥;
  closing = λ run count. closing run.frames;
}
