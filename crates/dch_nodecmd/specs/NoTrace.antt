-- A line that changes nothing leaves no trace in a run.
use Rattle.std.specs.Prelude.{◌≡◌, ◌++◌, ℕ, List, false}
use Rattle.dch_accept.specs.Plans.{Planned}
use Rattle.dch_lines.specs.LineTexts.{HandlesLines, is_empty}
use Rattle.dch_node.specs.Lines.{Line}
use Rattle.dch_script.specs.LineText.{text_of}
use Rattle.dch_node.specs.Values.{Output}
use Rattle.dch_nodecmd.specs.NodeRules.{NodeRules, SaysEvent}
use Rattle.dch_nodecmd.specs.Rules.{node_lines}
use Rattle.dch_nodecmd.specs.Run.{Run, frames_in}
use Rattle.dch_lines.specs.Shown.{shown}

-- two runs whose later steps go on from the same, in which as many radio frames have passed
pub record IsSameRun {S E : Type 0} (rules : NodeRules S E) (run other : Run S E) : Type 0 where
  pub node : rules.kept other.node ≡ rules.kept run.node
  pub began : other.began ≡ run.began
  pub first : other.first ≡ run.first
  pub second : other.second ≡ run.second
  pub quiet : other.quiet ≡ run.quiet
  pub frames : frames_in rules other.events ≡ frames_in rules run.events

-- under a configuration a line says an event that stands for no radio frame and is answered by these lines, and later
-- steps go on as without it
pub record ChangesNothing {S E : Type 0} (rules : NodeRules S E) (planned : Planned) (line : List ℕ)
    (lines : List Line) : Type 0 where
  pub words : is_empty line ≡ false
  pub event : E
  pub says : SaysEvent rules planned.config line event
  pub uncounted : rules.frames event ≡ 0
  pub answered : (old new : S) (output : Output) → rules.planned old ≡ planned → rules.steps old event new output
      → (rules.kept new ≡ rules.kept old) × (output.lines ≡ lines)

-- wherever lines lead, a line changes nothing then
abbrev pub ChangesNothingAfter : {S E : Type 0} → NodeRules S E → Run S E → List (List ℕ) → List ℕ → List Line → Type 0
ChangesNothingAfter {S} {E} rules run before line lines = (mid : Run S E) (text : List ℕ)
    → HandlesLines (node_lines rules) run before mid text → ChangesNothing rules (rules.planned mid.node) line lines

-- without such a line the others do the same, and their text is the same, less its lines
pub record LeavesNoTrace {S E : Type 0} (rules : NodeRules S E) (run new : Run S E) (before after : List (List ℕ))
    (lines : List Line) (text : List ℕ) : Type 0 where
  pub other : Run S E
  pub front : List ℕ
  pub back : List ℕ
  pub whole : text ≡ front ++ shown run.quiet (text_of lines) ++ back
  pub without : HandlesLines (node_lines rules) run (before ++ after) other (front ++ back)
  pub same : IsSameRun rules new other
