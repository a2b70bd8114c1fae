-- What lines of `link` make of three nodes: a run of what they say, in one part or in two.
use Rattle.std.specs.Prelude.{◌≡◌, ◌≤◌, ◌+◌, ◌++◌, ◌⊎◌, ℕ, zero, suc, List, [], ◌∷◌, Option, None, Some, MatchBool}
use Rattle.dch_types.specs.declared.config.Config.{Config}
use Rattle.dch_lines.specs.LineTexts.{is_empty}
use Rattle.dch_node.specs.Lines.{Line}
use Rattle.dch_script.specs.LineText.{text_of}
use Rattle.dch_lines.specs.Shown.{shown}
use Rattle.dch_lines.specs.Coming.{coming}
use Rattle.dch_lines.specs.declared.later.Later.{Later}
use Rattle.dch_linkcmd.specs.LinkChanging.{Changes}
use Rattle.dch_linkcmd.specs.LinkLink.{LinkState}
use Rattle.dch_linkcmd.specs.stage.Stage.TheVariants.{RncTick}
use Rattle.dch_linkcmd.specs.LineEvents.{Frames, OneEvent, Said, Says}
use Rattle.dch_linkcmd.specs.Run.{Run, config_of}
use Rattle.dch_linkcmd.specs.RunLines.{active_behind}
use Rattle.dch_runlaw.specs.Intervals.{frames_in}
use Rattle.dch_runlaw.specs.Runs.{Between, Event, Frame, Runs}

-- so many radio frames
abbrev pub radio_frames : ℕ → List Event
radio_frames zero = []
radio_frames (suc count) = Frame ∷ radio_frames count

-- what is said, as events and radio frames
abbrev pub events_of : Said → List Event
events_of (OneEvent event) = Between event ∷ []
events_of (Frames count) = radio_frames count

pub record SaysEvents (config : Config) (line : List ℕ) (events : List Event) : Type 0 where
  pub said : Said
  pub says : Says config line said
  pub are : events ≡ events_of said

-- an empty line says nothing
abbrev pub LineSays : Config → List ℕ → List Event → Type 0
LineSays config line events = MatchBool (is_empty line) (events ≡ []) (SaysEvents config line events)

-- a line, and the others, by the radio frames that have passed then
pub record SaysFirst (config : Config) (frames : ℕ) (line : List ℕ) (Rest : ℕ → List Event → Type 0)
    (events : List Event) : Type 0 where
  pub own : List Event
  pub rest : List Event
  pub first : LineSays config line own
  pub later : Rest (frames + frames_in own) rest
  pub all : events ≡ own ++ rest

-- lines of a script say these events, each line read in the configuration that is active when so many radio frames have
-- passed
abbrev pub AreSaid : (ℕ → Config) → ℕ → List (List ℕ) → List Event → Type 0
AreSaid at frames [] events = events ≡ []
AreSaid at frames (line ∷ lines) events = SaysFirst (at frames) frames line (λ now rest. AreSaid at now lines rest)
    events

-- a run in the configuration that is active, where a second one may be still to come when so many radio frames have
-- passed: all radio frames of the run are before that from which it is active
pub record StaysFirst (second : Option Later) (frames : ℕ) (old : LinkState) (events : List Event) (new : LinkState)
    (lines : List Line) (left : Option Later) : Type 0 where
  pub run : Runs old events new lines
  pub soon : (later : Later) → second ≡ Some later → frames + frames_in events ≤ later.frame
  pub still : left ≡ second

-- a run in two parts: the second configuration becomes active just before the radio frame of its number
pub record ChangesWithin (second : Option Later) (frames : ℕ) (old : LinkState) (events : List Event) (new : LinkState)
    (lines : List Line) (left : Option Later) : Type 0 where
  pub later : Later
  pub was : second ≡ Some later
  pub before : List Event
  pub after : List Event
  pub all : events ≡ before ++ (Frame ∷ after)
  pub now : frames + frames_in before ≡ later.frame
  pub last : LinkState
  pub start : LinkState
  pub early : List Line
  pub late : List Line
  pub run : Runs old before last early
  pub changes : Changes later.accepted last start
  pub rest : Runs start (Frame ∷ after) new late
  pub reported : lines ≡ early ++ late
  pub none : left ≡ None

abbrev pub RunsOver : Option Later → ℕ → LinkState → List Event → LinkState → List Line → Option Later → Type 0
RunsOver second frames old events new lines left = StaysFirst second frames old events new lines left
    ⊎ ChangesWithin second frames old events new lines left

-- between two lines no radio frame is on, and that from which a second configuration is active has not passed
pub record IsAtRest (run : Run) : Type 0 where
  pub stage : run.stage ≡ RncTick
  pub left : run.left ≡ 0
  pub soon : (later : Later) → run.second ≡ Some later → run.frames ≤ later.frame

-- the lines lead the nodes through a run of what they say, and this is shown of its lines
pub record IsRunOf (old : Run) (lines : List (List ℕ)) (new : Run) (text : List ℕ) : Type 0 where
  pub events : List Event
  pub said : AreSaid (active_behind (config_of old) (coming old.second)) old.frames lines events
  pub reported : List Line
  pub run : RunsOver old.second old.frames old.link events new.link reported new.second
  pub frames : new.frames ≡ old.frames + frames_in events
  pub shows : text ≡ shown old.quiet (text_of reported)
  pub quiet : new.quiet ≡ old.quiet
  pub rests : IsAtRest new
