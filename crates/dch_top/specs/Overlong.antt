-- `encode` refuses a line of more bytes than a line may have.
use Rattle.std.specs.Prelude.{◌≡◌, ◌<◌, ℕ, List, true, length, Err, nat_lt, refl}
use Rattle.std.proofs.lemmas.Bool.{lt-ltb}
use Rattle.dch_script.specs.Code.{longest, content, meaning}
use Rattle.dch_script.specs.declared.event.LineError.TheVariants.{Long}
use Rattle.dch_lines.specs.Semantics.{RefusesLong}
use Rattle.dch_top.specs.EncodeText.{encoding}

meaning_long : (line : List ℕ) → longest < length (content line) → meaning line ≡ Err Long
unfolding meaning
meaning_long line long = let over : nat_lt longest (length (content line))
    ≡ true = lt-ltb longest (length (content line)) long in rw over refl

pub encoding_refuses_long : RefusesLong encoding
encoding_refuses_long state line long = meaning_long line long
