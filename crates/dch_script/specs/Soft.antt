-- The lines of the command `soft`: those of `link`, where damage stands after the words `leg K`.
use Rattle.std.specs.Prelude.{ℕ, List, [], ◌∷◌, Option, Some, None, Result, Ok, Err, codes, if◌then◌else◌, nat_lt}
use Rattle.std.specs.Str.{bytes_eq}
use Rattle.dch_types.specs.declared.config.Config.{Config}
use Rattle.dch_script.specs.declared.event.Event.{Event}
use Rattle.dch_script.specs.declared.event.LineError.{LineError}
use Rattle.dch_script.specs.declared.event.LineError.TheVariants.{Word, Count, Number}
use Rattle.dch_script.specs.LineWords.{words_of}
use Rattle.dch_script.specs.Link.{damage_words, traffic_words}
use Rattle.dch_script.specs.Meaning.{content_of}
use Rattle.dch_script.specs.ParsedLine.{ParsedLine, parsed_of, ◌>>=◌}
use Rattle.dch_script.specs.Parts.{number_in, provided}

-- K, of so many legs
unfoldable pub leg_of : ℕ → List ℕ → Result ℕ LineError
leg_of legs word = do
  leg ← number_in 255 word
  provided (nat_lt leg legs) leg Number

-- the words after `leg`: K, and those of a line of damage
unfoldable pub leg_words : ℕ → Config → List (List ℕ) → Result (Option ℕ × ParsedLine) LineError
leg_words legs config (k ∷ (first ∷ words)) = do
  leg ← leg_of legs k
  damage ← damage_words config first words
  Ok (Some leg, damage)
leg_words legs config _ = Err Count

-- the words of a line without a leg
unfoldable pub legless_words : Config → List ℕ → List (List ℕ) → Result (Option ℕ × ParsedLine) LineError
legless_words config first words = do
  event ← traffic_words config first words
  Ok (None, event)

-- what the words of a line say
abbrev pub soft_words : ℕ → Config → List (List ℕ) → Result (Option ℕ × ParsedLine) LineError
soft_words legs config [] = Err Word
soft_words legs config (first ∷ words) = if bytes_eq first (codes "leg") then leg_words legs config words
    else legless_words config first words

-- what a line of `soft` with so many legs says, under a configuration
unfoldable pub soft_meaning : ℕ → Config → List ℕ → Result (Option ℕ × ParsedLine) LineError
soft_meaning legs config line = do
  text ← content_of line
  soft_words legs config (words_of text)

-- what the answer to a line says
abbrev pub parsed_leg : Result (Option ℕ × Event) LineError → Result (Option ℕ × ParsedLine) LineError
parsed_leg (Ok answer) = Ok (answer.0, parsed_of answer.1)
parsed_leg (Err error) = Err error
