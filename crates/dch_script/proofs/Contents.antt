-- What a line of `encode` says, by its content.
use Rattle.std.proofs.Common.{◌≡◌, ℕ, List, Bool, true, false, Result, Ok, Err, if◌then◌else◌, refl, length}
use Rattle.std.specs.Prelude.{nat_lt}
use Rattle.dch_script.specs.declared.event.LineError.{LineError}
use Rattle.dch_script.specs.declared.event.LineError.TheVariants.{Long, Cut}
use Rattle.dch_script.specs.Code.{content, is_ended, line_words, longest, meaning}
use Rattle.dch_script.specs.Meaning.{content_of}
use Rattle.dch_script.specs.ParsedLine.{◌>>=◌}
use Rattle.dch_script.specs.LineWords.{words_of}

-- a choice of three, by its last step
chosen : {A B : Type 0} (long ended : Bool) (text : A) (later : A → Result B LineError) → (if long then Err Long else (if ended then later text else Err Cut)) ≡ ((if long then Err Long else (if ended then Ok text else Err Cut)) >>= later)
chosen true ended text later = refl
chosen false true text later = refl
chosen false false text later = refl

-- what a line says is what its content says
pub meaning_by_content : (line : List ℕ) → meaning line ≡ (content_of line >>= (λ text. line_words (words_of text)))
unfolding meaning
meaning_by_content line = chosen (nat_lt longest (length (content line))) (is_ended line) (content line) (λ text. line_words (words_of text))
