-- A configuration that is never refused.
use Rattle.std.specs.Prelude.{◌≡◌}
use Rattle.dch_types.specs.declared.config.Config.{Config}
use Rattle.dch_accept.specs.declared.refusal.Refusal.{Refusal}
use Rattle.dch_accept.specs.declared.refusal.Refusal.TheVariants.{NoMemory}
use Rattle.dch_accept.specs.Answers.{IsCause}

-- no refusal but want of memory has a cause
abbrev pub IsNeverRefused : Config → Type 0
IsNeverRefused config = (refusal : Refusal) → IsCause config refusal → refusal ≡ NoMemory
