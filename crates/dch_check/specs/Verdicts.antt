-- The judgement of a text: its configuration is read and accepted, or refused.
use Rattle.std.specs.Prelude.{◌≡◌, ◌≤◌, ◌⊎◌, ℕ, List, Some, Ok, Err, string_bytes}
use Rattle.dch_types.specs.declared.config.Config.{Config}
use Rattle.dch_config.specs.Reading.{Reads}
use Rattle.dch_config.specs.declared.error.ConfigError.{ConfigError}
use Rattle.dch_collision.specs.Clear.{IsClear}
use Rattle.dch_accept.specs.Answers.{HaveAllRates, IsAccepted as IsPlannedFrom, count_of, IsCause}
use Rattle.dch_accept.specs.Plans.{Planned}
use Rattle.dch_accept.specs.declared.refusal.Refusal.{Refusal}
use Rattle.dch_check.specs.Acceptance.{acceptance_refusal, accepted_line}
use Rattle.dch_check.specs.Refusals.{refusal}
use Rattle.dch_check.specs.declared.which.Which.{Which}
use Rattle.dch_check.specs.declared.which.Which.TheVariants.{First}
use Rattle.dch_check.specs.declared.verdict.Verdict.{Verdict}
use Rattle.dch_check.specs.declared.verdict.Verdict.TheVariants.{Accepted, Refused}

-- a configuration is accepted, and this is the line that says so: each uplink combination has a rate, not too many code
-- blocks may lose bits, and no two of them collide
pub record IsAcceptedBy (config : Config) (line : List ℕ) : Type 0 where
  pub rates : HaveAllRates config
  pub few : count_of config ≤ 2048
  pub clear : IsClear config
  pub shown : line ≡ accepted_line (count_of config)

-- it is not accepted, and this line says why
pub record IsRefusedBy (which : Which) (config : Config) (line : List ℕ) : Type 0 where
  pub why : Refusal
  pub cause : IsCause config why
  pub shown : acceptance_refusal which why ≡ Some line

-- the judgement of a configuration
abbrev pub JudgesConfig : Which → Config → Verdict → Type 0
JudgesConfig which config (Accepted accepted) = IsPlannedFrom config accepted
JudgesConfig which config (Refused line) = IsRefusedBy which config (string_bytes line)

-- a text is read as a configuration that is accepted, and this is the line that says so
pub record IsAccepted (text line : List ℕ) : Type 0 where
  pub config : Config
  pub reads : Reads text (Ok config)
  pub accepted : IsAcceptedBy config line

-- a text is read as a configuration that is accepted, and this is the configuration with its plans
pub record IsAcceptedAs (text : List ℕ) (accepted : Planned) : Type 0 where
  pub config : Config
  pub reads : Reads text (Ok config)
  pub is : IsPlannedFrom config accepted

-- a text is not read as a configuration, and this line says why
pub record IsUnread (which : Which) (text line : List ℕ) : Type 0 where
  pub why : ConfigError
  pub reads : Reads text (Err why)
  pub shown : refusal which why ≡ Some line

-- a text is read as a configuration that is not accepted, and this line says why
pub record IsUnaccepted (which : Which) (text line : List ℕ) : Type 0 where
  pub config : Config
  pub reads : Reads text (Ok config)
  pub refused : IsRefusedBy which config line

-- a text is refused by this line, as the first configuration of an input or as the second one
abbrev pub RefusesAs : Which → List ℕ → List ℕ → Type 0
RefusesAs which text line = IsUnread which text line ⊎ IsUnaccepted which text line

abbrev pub Refuses : List ℕ → List ℕ → Type 0
Refuses text line = RefusesAs First text line

-- the judgement of a text, as the first configuration of an input or as the second one
abbrev pub JudgesAs : Which → List ℕ → Verdict → Type 0
JudgesAs which text (Accepted accepted) = IsAcceptedAs text accepted
JudgesAs which text (Refused line) = RefusesAs which text (string_bytes line)

abbrev pub Judges : List ℕ → Verdict → Type 0
Judges text verdict = JudgesAs First text verdict
