-- Lines of `link` of which none is refused.
use Rattle.std.specs.Prelude.{◌+◌, ℕ, List, [], ◌∷◌, MatchBool, Option, None, Some, nat_le, if◌then◌else◌}
use Rattle.dch_types.specs.declared.config.Config.{Config}
use Rattle.dch_lines.specs.LineTexts.{is_empty}
use Rattle.dch_linkcmd.specs.LineEvents.{Frames, OneEvent, Said, Says}

-- how many radio frames are asked for
abbrev pub frames_of : Said → ℕ
frames_of (OneEvent event) = 0
frames_of (Frames count) = count

-- the configuration that is active when so many radio frames have passed, where there may be a second one that is
-- active from one of them on
abbrev pub active_behind : Config → Option (ℕ × Config) → ℕ → Config
active_behind config None frames = config
active_behind config (Some second) frames = if nat_le frames second.0 then config else second.1

-- and the second one where it is still to come then
abbrev pub coming_behind : Option (ℕ × Config) → ℕ → Option (ℕ × Config)
coming_behind None frames = None
coming_behind (Some second) frames = if nat_le frames second.0 then Some second else None

-- a line says something, and this holds of the lines after it, by the radio frames that have passed then
pub record SaysFirst (config : Config) (frames : ℕ) (line : List ℕ) (Rest : ℕ → Type 0) : Type 0 where
  pub said : Said
  pub says : Says config line said
  pub rest : Rest (frames + frames_of said)

-- each of the lines is empty, or says something under the configuration that is active; before them so many radio
-- frames have passed
abbrev pub AreRunLines : Config → Option (ℕ × Config) → ℕ → List (List ℕ) → Type 0
AreRunLines config second frames [] = Unit {0}
AreRunLines config second frames (line ∷ lines) =
    MatchBool (is_empty line) (AreRunLines config second frames lines)
    (SaysFirst config frames line (λ now. AreRunLines (active_behind config second now)
    (coming_behind second now) now lines))
