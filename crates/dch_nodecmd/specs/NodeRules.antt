-- What a command knows of its node, whose states are S and whose events are E.
use Rattle.std.specs.Prelude.{◌≡◌, ◌≢◌, ◌+◌, ◌%◌, ℕ, List, [], Option, Some, None, Result, Ok, Err}
use Rattle.dch_types.specs.declared.config.Config.{Config}
use Rattle.dch_accept.specs.Plans.{Planned}
use Rattle.dch_script.specs.declared.event.Command.{Command}
use Rattle.dch_script.specs.declared.event.LineError.{LineError}
use Rattle.dch_script.specs.Meaning.{meaning_in}
use Rattle.dch_script.specs.ParsedLine.{ParsedLine, change}
use Rattle.dch_node.specs.Values.{Output}

-- the command whose lines the node takes; the configuration that is active in a state, the CFN of its radio frame, and
-- what of a state its later steps go on from; the state at opening for a configuration and the CFN of the first radio
-- frame; the steps; the event that a line says under a configuration, if it says one; the event that makes a
-- configuration active; and how many radio frames of 10 ms an event stands for
pub record NodeRules (S E : Type 0) : Type 1 where
  pub command : Command
  pub planned : S → Planned
  pub cfn : S → ℕ
  pub kept : S → S
  pub opened : Planned → ℕ → S
  pub steps : S → E → S → Output → Type 0
  pub event_of : Config → ParsedLine → Option E
  pub change : Planned → E
  pub frames : E → ℕ

-- what a line says under a configuration
abbrev pub meaning_for : {S E : Type 0} → NodeRules S E → Config → List ℕ → Result ParsedLine LineError
meaning_for rules config line = meaning_in rules.command config line

-- a line says an event under a configuration
pub record SaysEvent {S E : Type 0} (rules : NodeRules S E) (config : Config) (line : List ℕ) (event : E) : Type 0 where
  pub parsed : ParsedLine
  pub says : meaning_for rules config line ≡ Ok parsed
  pub is : rules.event_of config parsed ≡ Some event

-- a line asks for a change of the configuration
abbrev pub AsksChange : {S E : Type 0} → NodeRules S E → Config → List ℕ → Type 0
AsksChange rules config line = meaning_for rules config line ≡ Ok change

-- a line is malformed for the reason that its words tell
abbrev pub IsMalformed : {S E : Type 0} → NodeRules S E → Config → List ℕ → LineError → Type 0
IsMalformed rules config line why = meaning_for rules config line ≡ Err why

-- the configuration is that of the opening, is kept, and stays over the steps; no line says a change by itself. A
-- change makes its configuration active, stands for no radio frame and reports nothing. The CFN is that of the opening,
-- and goes on by the radio frames of each event. A step goes on from nothing but what is kept
pub record AreLasting {S E : Type 0} (rules : NodeRules S E) : Type 0 where
  pub opens : (planned : Planned) (first : ℕ) → rules.planned (rules.opened planned first) ≡ planned
  pub is_kept : (state : S) → rules.planned (rules.kept state) ≡ rules.planned state
  pub stays : (old new : S) (event : E) (output : Output) → ((planned : Planned) → event ≢ rules.change planned)
      → rules.steps old event new output → rules.planned new ≡ rules.planned old
  pub unsaid : (config : Config) (parsed : ParsedLine) (planned : Planned)
      → rules.event_of config parsed ≢ Some (rules.change planned)
  pub changeless : (config : Config) → rules.event_of config change ≡ None
  pub changes : (old new : S) (planned : Planned) (output : Output) → rules.steps old (rules.change planned) new output
      → rules.planned new ≡ planned
  pub uncounted : (planned : Planned) → rules.frames (rules.change planned) ≡ 0
  pub silent : (old new : S) (planned : Planned) (output : Output) → rules.steps old (rules.change planned) new output
      → output.lines ≡ []
  pub opens_at : (planned : Planned) (first : ℕ) → rules.cfn (rules.opened planned first) ≡ first
  pub turns : (old new : S) (event : E) (output : Output) → rules.steps old event new output → rules.cfn new % 256
      ≡ (rules.cfn old + rules.frames event) % 256
  pub goes_on : (old older new : S) (event : E) (output : Output) → rules.kept older ≡ rules.kept old
      → rules.steps old event new output → rules.steps older event new output
