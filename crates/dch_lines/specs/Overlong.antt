-- A line of more bytes than a line may have is malformed.
use Rattle.std.specs.Prelude.{◌≡◌, ◌<◌, ℕ, List, true, length, Err, nat_lt, refl}
use Rattle.std.proofs.lemmas.Bool.{lt-ltb}
use Rattle.dch_types.specs.declared.config.Config.{Config}
use Rattle.dch_script.specs.Code.{longest, content}
use Rattle.dch_script.specs.Meaning.{meaning_in}
use Rattle.dch_script.specs.declared.event.Command.{Command}
use Rattle.dch_script.specs.declared.event.LineError.TheVariants.{Long}

-- what such a line says
pub meaning_long : (command : Command) (config : Config) (line : List ℕ) → longest < length (content line)
    → meaning_in command config line ≡ Err Long
unfolding meaning_in
meaning_long command config line long = let over : nat_lt longest (length (content line))
    ≡ true = lt-ltb longest (length (content line)) long in rw over refl
