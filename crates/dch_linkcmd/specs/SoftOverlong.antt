-- `soft` refuses a line of more bytes than a line may have.
use Rattle.std.specs.Prelude.{◌≡◌, ◌<◌, ℕ, List, true, length, Err, nat_lt, refl}
use Rattle.std.proofs.lemmas.Bool.{lt-ltb}
use Rattle.dch_types.specs.declared.config.Config.{Config}
use Rattle.dch_script.specs.Code.{longest, content}
use Rattle.dch_script.specs.Soft.{soft_meaning}
use Rattle.dch_script.specs.declared.event.LineError.TheVariants.{Long}
use Rattle.dch_lines.specs.Semantics.{RefusesLong}
use Rattle.dch_linkcmd.specs.SoftRules.{soft_lines}
use Rattle.dch_linkcmd.specs.SoftRun.{config_of}

-- what such a line says
soft_long : (legs : ℕ) (config : Config) (line : List ℕ) → longest < length (content line)
    → soft_meaning legs config line ≡ Err Long
unfolding soft_meaning
soft_long legs config line long = let over : nat_lt longest (length (content line))
    ≡ true = lt-ltb longest (length (content line)) long in rw over refl

pub soft_refuses_long : RefusesLong soft_lines
soft_refuses_long run line long = soft_long run.soft.count (config_of run) line long
