-- The rules of a command with one node: each line is one event of the node.
use Rattle.std.specs.Prelude.{◌≡◌, ◌⊎◌, ◌++◌, ℕ, List, [], ◌∷◌, None}
use Rattle.dch_types.specs.declared.config.Config.{Config}
use Rattle.dch_script.specs.declared.event.LineError.{LineError}
use Rattle.dch_script.specs.declared.event.LineError.TheVariants.{When}
use Rattle.dch_lines.specs.Semantics.{Semantics, one_step}
use Rattle.dch_script.specs.LineText.{text_of}
use Rattle.dch_node.specs.Values.{Output}
use Rattle.dch_nodecmd.specs.NodeRules.{AsksChange, IsMalformed, NodeRules, SaysEvent}
use Rattle.dch_nodecmd.specs.Run.{Run, frames_in}
use Rattle.dch_lines.specs.Coming.{IsDue}
use Rattle.dch_lines.specs.Shown.{shown}
use Rattle.dch_lines.specs.declared.later.Later.{Later}
use Rattle.dch_lines.specs.LineTexts.{closing}

-- the configuration that is active
abbrev pub config_of : {S E : Type 0} → NodeRules S E → Run S E → Config
config_of rules run = (rules.planned run.node).config

-- a step of the node for an event, and what is shown of its lines
pub record TakesEvent {S E : Type 0} (rules : NodeRules S E) (old : Run S E) (event : E) (new : Run S E)
    (text : List ℕ) : Type 0 where
  pub node : S
  pub output : Output
  pub step : rules.steps old.node event node output
  pub goes_on : new ≡ record old {
    node = node;
    events = old.events ++ event ∷ [];
    lines = old.lines
        ++ output.lines;
    last = output;
  }
  pub shows : text ≡ shown old.quiet (text_of output.lines)

-- a line says an event
pub record TakesSaid {S E : Type 0} (rules : NodeRules S E) (old : Run S E) (line : List ℕ) (new : Run S E)
    (text : List ℕ) : Type 0 where
  pub event : E
  pub says : SaysEvent rules (config_of rules old) line event
  pub takes : TakesEvent rules old event new text

-- a change of the configuration that is due, after which none is to come
pub record MakesChange {S E : Type 0} (rules : NodeRules S E) (old new : Run S E) (text : List ℕ) : Type 0 where
  pub later : Later
  pub due : IsDue old.second (frames_in rules old.events) later
  pub takes : TakesEvent rules (record old { second = None }) (rules.change later.accepted) new text

-- a good line says an event, or asks for a change that is due
abbrev pub TakesLine : {S E : Type 0} → NodeRules S E → Run S E → List ℕ → Run S E → List ℕ → Type 0
TakesLine rules old line new text = TakesSaid rules old line new text
    ⊎ (AsksChange rules (config_of rules old) line × MakesChange rules old new text)

-- a line asks for a change that is not due
pub record IsUntimely {S E : Type 0} (rules : NodeRules S E) (run : Run S E) (line : List ℕ)
    (why : LineError) : Type 0 where
  pub asks : AsksChange rules (config_of rules run) line
  pub undue : (later : Later) → ¬ IsDue run.second (frames_in rules run.events) later
  pub shown : why ≡ When

-- another line is malformed, or untimely
abbrev pub RefusesLine : {S E : Type 0} → NodeRules S E → Run S E → List ℕ → LineError → Type 0
RefusesLine rules run line why = IsMalformed rules (config_of rules run) line why ⊎ IsUntimely rules run line why

abbrev pub node_lines : {S E : Type 0} → NodeRules S E → Semantics (Run S E)
node_lines rules = one_step (TakesLine rules) (RefusesLine rules) (λ run count. closing (frames_in rules run.events))
