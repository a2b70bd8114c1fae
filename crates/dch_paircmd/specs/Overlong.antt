-- `pair` refuses a line of more bytes than a line may have.
use Rattle.std.specs.Prelude.{◌≡◌, ◌<◌, ℕ, List, Bool, true, length, Err, is_some, nat_lt, refl}
use Rattle.std.proofs.Common.{inl}
use Rattle.std.proofs.lemmas.Bool.{lt-ltb}
use Rattle.dch_script.specs.Code.{longest, content}
use Rattle.dch_script.specs.Pair.{begins_with_ends}
use Rattle.dch_script.specs.declared.event.LineError.TheVariants.{Long}
use Rattle.dch_lines.specs.Semantics.{RefusesLong}
use Rattle.dch_paircmd.specs.Rules.{pair_lines, pair_meaning_at}

-- what such a line says
pair_long : (opened : Bool) (line : List ℕ) → longest < length (content line) → pair_meaning_at opened line ≡ Err Long
unfolding pair_meaning_at begins_with_ends
pair_long opened line long = let over : nat_lt longest (length (content line))
    ≡ true = lt-ltb longest (length (content line)) long in rw over refl

pub pair_refuses_long : RefusesLong pair_lines
pair_refuses_long old line long = inl (pair_long (is_some old) line long)
