-- The program refuses a line of more bytes than a line may have.
use Rattle.std.specs.Prelude.{◌≡◌, ◌<◌, ℕ, List, true, length, Err, nat_lt, refl}
use Rattle.std.proofs.Common.{inl}
use Rattle.std.proofs.lemmas.Bool.{lt-ltb}
use Rattle.dch_types.specs.declared.config.Config.{Config}
use Rattle.dch_script.specs.Code.{longest, content}
use Rattle.dch_script.specs.Stages.{stage_meaning}
use Rattle.dch_script.specs.declared.event.LineError.TheVariants.{Long}
use Rattle.dch_lines.specs.Semantics.{RefusesLong}
use Rattle.dch_stages.specs.Rules.{rules}

stage_long : (config : Config) (line : List ℕ) → longest < length (content line) → stage_meaning config line ≡ Err Long
unfolding stage_meaning
stage_long config line long = let over : nat_lt longest (length (content line))
    ≡ true = lt-ltb longest (length (content line)) long in rw over refl

pub stages_refuse_long : RefusesLong rules
stages_refuse_long state line long = inl (stage_long state.planned.config line long)
