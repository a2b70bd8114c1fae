-- Lines of a command with one node of which none is refused.
use Rattle.std.specs.Prelude.{◌≡◌, ◌⊎◌, ◌+◌, ℕ, List, [], ◌∷◌, MatchBool, Option, None, Some}
use Rattle.dch_types.specs.declared.config.Config.{Config}
use Rattle.dch_lines.specs.LineTexts.{is_empty}
use Rattle.dch_nodecmd.specs.NodeRules.{AsksChange, NodeRules, SaysEvent}

-- a line says an event, and this holds of the lines after it, by the radio frames that have passed then
pub record SaysFirst {S E : Type 0} (rules : NodeRules S E) (config : Config) (frames : ℕ) (line : List ℕ)
    (Rest : ℕ → Type 0) : Type 0 where
  pub event : E
  pub says : SaysEvent rules config line event
  pub rest : Rest (frames + rules.frames event)

-- it asks for a change that is due, and this holds of the lines after it, by the configuration that is active then
pub record AsksFirst {S E : Type 0} (rules : NodeRules S E) (config : Config) (second : Option (ℕ × Config))
    (frames : ℕ) (line : List ℕ) (Rest : Config → Type 0) : Type 0 where
  pub asks : AsksChange rules config line
  pub next : Config
  pub due : second ≡ Some (frames, next)
  pub rest : Rest next

-- each of the lines is empty, says an event under the configuration that is active, or asks for a change that is due;
-- before them so many radio frames have passed
abbrev pub AreRunLines : {S E : Type 0} → NodeRules S E → Config → Option (ℕ × Config) → ℕ → List (List ℕ) → Type 0
AreRunLines rules config second frames [] = Unit {0}
AreRunLines rules config second frames (line ∷ lines) =
    MatchBool (is_empty line) (AreRunLines rules config second frames lines)
    (SaysFirst rules config frames line (λ now. AreRunLines rules config second now lines)
    ⊎ AsksFirst rules config second frames line (λ next. AreRunLines rules next None frames lines))
