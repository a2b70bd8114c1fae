-- The first of some refusals.
use Rattle.std.specs.Prelude.{◌≡◌, List, [], ◌∷◌, Bool, if◌then◌else◌, Option, Some, None, Result, Ok, Err}
use Rattle.dch_config.specs.declared.error.ConfigError.{ConfigError}

-- the first refusal, of some that are in the order in which they count
abbrev pub first_refusal : List (Option ConfigError) → Option ConfigError
first_refusal [] = None
first_refusal (None ∷ refusals) = first_refusal refusals
first_refusal (Some e ∷ refusals) = Some e

abbrev pub refused_if : Bool → ConfigError → Option ConfigError
refused_if wrong e = if wrong then Some e else None

-- an answer that is this refusal, if there is one
abbrev pub Judges : Option ConfigError → Result (Unit {0}) ConfigError → Type 0
Judges refusal (Ok u) = refusal ≡ None
Judges refusal (Err e) = refusal ≡ Some e
