-- What the handler of a command with one node has, and the runs that it stands for. The values of the node are V.
use Rattle.std.specs.Prelude.{◌≡◌, ◌≤◌, ◌%◌, ℕ, List, Bool, Option, Some, IfSome}
use Rattle.dch_accept.specs.Plans.{Planned}
use Rattle.dch_io.specs.Pieces.{LIMIT}
use Rattle.dch_node.specs.Lines.{Line}
use Rattle.dch_script.specs.LineText.{text_of}
use Rattle.dch_script.specs.ParsedLine.{ParsedLine, change}
use Rattle.dch_node.specs.Standing.{HasHistory, TakesStep, Tells}
use Rattle.dch_node.specs.Traces.{Reaches}
use Rattle.dch_node.specs.Values.{Output}
use Rattle.dch_nodecmd.specs.NodeRules.{NodeRules}
use Rattle.dch_nodecmd.specs.Run.{Run, frames_in}
use Rattle.dch_lines.specs.Shown.{shown}
use Rattle.dch_lines.specs.declared.later.Later.{Later}
use Rattle.dch_nodecmd.specs.declared.taken.Taken.{Taken}
use Rattle.dch_nodecmd.specs.declared.taken.Taken.TheVariants as taken

-- the configuration that is active, the second one where it is still to come, the node, whether the lines of frames are
-- left out, and how many radio frames have passed
pub record Handler (V : Type 0) : Type 0 where
  pub accepted : Planned
  pub later : Option Later
  pub node : V
  pub quiet : Bool
  pub frames : ℕ

-- a handler stands for a run: its node is in the state of the run, which the events lead to with the lines
pub record RepresentsRun {S E V : Type 0} (rules : NodeRules S E) (Represents : Planned → S → V → Type 0)
    (Shows : Output → V → Type 0) (run : Run S E) (handler : Handler V) : Type 0 where
  pub second : run.second ≡ handler.later
  pub quiet : run.quiet ≡ handler.quiet
  pub frames : frames_in rules run.events ≡ handler.frames
  pub stands : Represents handler.accepted run.node handler.node
  pub shows : Shows run.last handler.node
  pub reached : Reaches rules.steps (rules.opened run.began run.first) run.events run.node run.last run.lines

-- a handler stands for a run whose first CFN is a multiple of 8
pub record HasRun {S E V : Type 0} (rules : NodeRules S E) (Represents : Planned → S → V → Type 0)
    (Shows : Output → V → Type 0) (handler : Handler V) : Type 0 where
  pub run : Run S E
  pub stands : RepresentsRun rules Represents Shows run handler
  pub whole : run.first % 8 ≡ 0

-- a node holds its parts for the second configuration, and all TTIs start with the radio frame from which that is
-- active
pub record IsPrepared {V : Type 0} (HasNext : Planned → Planned → V → Type 0) (accepted : Planned) (node : V)
    (later : Later) : Type 0 where
  pub next : HasNext accepted later.accepted node
  pub whole : later.frame % 8 ≡ 0

-- what a handler keeps at any time, where nodes were opened for a configuration and hold their parts for a second one
pub record IsReady {S E V : Type 0} (rules : NodeRules S E) (IsNodeOf : Planned → V → Type 0)
    (HasNext : Planned → Planned → V → Type 0) (Represents : Planned → S → V → Type 0) (Shows : Output → V → Type 0)
    (handler : Handler V) : Type 0 where
  pub few : handler.frames ≤ LIMIT
  pub opened : IsNodeOf handler.accepted handler.node
  pub next : IfSome handler.later (IsPrepared HasNext handler.accepted handler.node)
  pub runs : HasRun rules Represents Shows handler

-- a node stands for what happened since it was opened for the configuration began, where planned is active
abbrev pub RepresentsHistory : {S E V : Type 0} → NodeRules S E → (Planned → S → V → Type 0) → (Output → V → Type 0)
    → Planned → Planned → ℕ → List E → List Line → V → Type 0
RepresentsHistory rules Represents Shows began planned first events lines node =
    HasHistory rules.steps (Represents planned) Shows (rules.opened began first) events lines node

-- a node that is open for a first configuration holds its parts for this second one, and stands for a state in which
-- all TTIs have ended
pub record CanChange {S E V : Type 0} (rules : NodeRules S E) (IsNodeOf : Planned → V → Type 0)
    (HasNext : Planned → Planned → V → Type 0) (Represents : Planned → S → V → Type 0) (second : Planned)
    (node : V) : Type 0 where
  pub first : Planned
  pub opened : IsNodeOf first node
  pub next : HasNext first second node
  pub state : S
  pub stands : Represents first state node
  pub whole : rules.cfn state % 8 ≡ 0

-- from each state that a node stands for it took the step of a change to a second configuration, with lines of which
-- this
-- holds
abbrev pub Changes : {S E V : Type 0} → NodeRules S E → (Planned → S → V → Type 0) → (Planned → Planned → V → Type 0)
    → (Output → V → Type 0) → Planned → V → V → (List Line → Type 0) → Type 0
Changes {S} rules Represents HasNext Shows second old new Says = (first : Planned) (state : S)
    → Represents first state old → HasNext first second old
    → TakesStep rules.steps (Represents second) Shows state (rules.change second) new Says

-- a node took what a line says as an event that stands for so many radio frames, with lines of which this holds
pub record StepsBy {S E V : Type 0} (rules : NodeRules S E) (Represents : Planned → S → V → Type 0)
    (Shows : Output → V → Type 0) (planned : Planned) (parsed : ParsedLine) (count : ℕ) (old new : V)
    (Says : List Line → Type 0) : Type 0 where
  pub event : E
  pub says : rules.event_of planned.config parsed ≡ Some event
  pub counted : count ≡ rules.frames event
  pub steps : (state : S) → Represents planned state old
      → TakesStep rules.steps (Represents planned) Shows state event new Says

-- what a node made of what a good line says, with lines of which the first holds; of a line that asks for a change it
-- makes nothing
-- yet, and the second holds
abbrev pub TakesAs : {S E V : Type 0} → NodeRules S E → (Planned → S → V → Type 0) → (Output → V → Type 0) → Planned
    → ParsedLine → V → V → (List Line → Type 0) → Type 0 → Taken → Type 0
TakesAs rules Represents Shows planned parsed old new Says Unsaid (taken.Event count) =
    StepsBy rules Represents Shows planned parsed count old new Says
TakesAs rules Represents Shows planned parsed old new Says Unsaid taken.Change = (parsed ≡ change)
    × (new ≡ old) × Unsaid

-- how many radio frames a good line stands for
abbrev pub frames_of : Taken → ℕ
frames_of (taken.Event count) = count
frames_of taken.Change = 0

-- a user was told of some lines
abbrev pub WasTold : {U : Type 0} → (U → Line → U → Type 0) → U → U → Type 0
WasTold shows old new = (lines : List Line) × Tells shows old new lines

-- what is shown of the text of lines is written to a page
abbrev pub ShowsLines : {P : Type 0} → (P → List ℕ → P → Type 0) → Bool → P → P → List Line → Type 0
ShowsLines writes quiet before after lines = writes before (shown quiet (text_of lines)) after

-- at any time a handler stands for a run
pub ready_stands : {S E V : Type 0} (rules : NodeRules S E) (IsNodeOf : Planned → V → Type 0)
    (HasNext : Planned → Planned → V → Type 0) (Represents : Planned → S → V → Type 0) (Shows : Output → V → Type 0)
    (handler : Handler V) → IsReady rules IsNodeOf HasNext Represents Shows handler → (run : Run S E) ×
    RepresentsRun rules Represents Shows run handler
ready_stands rules IsNodeOf HasNext Represents Shows handler ready = (ready.runs.run, ready.runs.stands)
