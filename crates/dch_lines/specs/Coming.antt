-- A second configuration that is still to come.
use Rattle.std.specs.Prelude.{◌≡◌, ◌%◌, ℕ, Option, Some, option_map}
use Rattle.dch_types.specs.declared.config.Config.{Config}
use Rattle.dch_config.specs.Changes.{KeepsBearer}
use Rattle.dch_accept.specs.Plans.{Planned}
use Rattle.dch_lines.specs.declared.later.Later.{Later}

-- the radio frame from which a second configuration is active, and this configuration, where one is still to come
abbrev pub coming : Option Later → Option (ℕ × Config)
coming second = option_map (λ (later : Later). (later.frame, later.accepted.config)) second

-- a second configuration is still to come, and is active from the radio frame of this count on
pub record IsDue (second : Option Later) (frames : ℕ) (later : Later) : Type 0 where
  pub waits : second ≡ Some later
  pub now : frames ≡ later.frame

-- every bearer goes on in a second configuration, which is active from a radio frame on in which all TTIs start
pub record CanFollow (first : Planned) (later : Later) : Type 0 where
  pub kept : (b : ℕ) → KeepsBearer first.config later.accepted.config b
  pub whole : later.frame % 8 ≡ 0
