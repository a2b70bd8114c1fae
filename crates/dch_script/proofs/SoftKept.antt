-- What the lines of `soft` keep.
use Rattle.std.proofs.Common.{◌≡◌, ◌<◌, ℕ, List, [], ◌∷◌, Option, Some, None, Result, Ok, Err, refl, sym, IfOk}
use Rattle.std.specs.Prelude.{codes, nat_lt}
use Rattle.std.specs.Str.{bytes_eq}
use Rattle.std.proofs.lemmas.Bool.{ltb-true}
use Rattle.dch_types.specs.declared.config.Config.{Config}
use Rattle.dch_script.specs.declared.event.Event.{Event}
use Rattle.dch_script.specs.declared.event.LineError.{LineError}
use Rattle.dch_script.specs.declared.event.LineError.TheVariants.{Number}
use Rattle.dch_script.specs.Good.{IsOfSoft}
use Rattle.dch_script.specs.LineWords.{words_of}
use Rattle.dch_script.specs.Link.{damage_words, traffic_words}
use Rattle.dch_script.specs.Meaning.{content_of}
use Rattle.dch_script.specs.ParsedLine.{ParsedLine, parsed_of}
use Rattle.dch_script.specs.Parts.{number_in, provided}
use Rattle.dch_script.specs.Soft.{leg_of, leg_words, legless_words, parsed_leg, soft_meaning, soft_words}
use Rattle.dch_script.proofs.Kept.{bind_keeps, if_keeps, ok_keeps, provided_keeps}
use Rattle.dch_script.proofs.LinkKept.{damage_keeps, traffic_keeps}

-- the leg and the event together
abbrev IsKept : ℕ → Config → Option ℕ × ParsedLine → Type 0
IsKept legs config answer = IsOfSoft legs config answer.0 answer.1

-- a leg that is read is one of the legs
leg_keeps : (legs : ℕ) (word : List ℕ) (leg : ℕ) → leg_of legs word ≡ Ok leg → leg < legs
unfolding leg_of
leg_keeps legs word leg is =
    bind_keeps (number_in 255 word) (λ n. provided (nat_lt n legs) n Number) leg (leg < legs)
    (λ n _ later. provided_keeps (nat_lt n legs) n leg Number (λ (m : ℕ). m < legs) (λ yes. ltb-true n legs yes) later) is

-- a line with a leg
leg_words_keep : (legs : ℕ) (config : Config) (words : List (List ℕ)) (answer : Option ℕ × ParsedLine) → leg_words legs config words ≡ Ok answer → IsKept legs config answer
unfolding leg_words
leg_words_keep legs config [] answer is = absurd (cc)
leg_words_keep legs config (k ∷ []) answer is = absurd (cc)
leg_words_keep legs config (k ∷ (first ∷ words)) answer is =
    bind_keeps (leg_of legs k) _ answer (IsKept legs config answer) (λ leg named rest.
    bind_keeps (damage_words config first words) _ answer (IsKept legs config answer) (λ damage read last.
    ok_keeps (Some leg, damage) answer (IsKept legs config) (leg_keeps legs k leg named, damage_keeps config first words damage read) _ refl last) rest) is

-- a line without a leg
legless_words_keep : (legs : ℕ) (config : Config) (first : List ℕ) (words : List (List ℕ)) (answer : Option ℕ × ParsedLine) → legless_words config first words ≡ Ok answer → IsKept legs config answer
unfolding legless_words
legless_words_keep legs config first words answer is =
    bind_keeps (traffic_words config first words) _ answer (IsKept legs config answer) (λ event read last.
    ok_keeps (None, event) answer (IsKept legs config) (traffic_keeps config first words event read) _ refl last) is

-- every line
soft_words_keep : (legs : ℕ) (config : Config) (words : List (List ℕ)) (answer : Option ℕ × ParsedLine) → soft_words legs config words ≡ Ok answer → IsKept legs config answer
soft_words_keep legs config [] answer is = absurd (cc)
soft_words_keep legs config (first ∷ words) answer is =
    if_keeps (bytes_eq first (codes "leg")) _ _ answer (IsKept legs config answer) (leg_words_keep legs config words answer) (legless_words_keep legs config first words answer) is

soft_keeps : (legs : ℕ) (config : Config) (line : List ℕ) (answer : Option ℕ × ParsedLine) → soft_meaning legs config line ≡ Ok answer → IsKept legs config answer
unfolding soft_meaning
soft_keeps legs config line answer is =
    bind_keeps (content_of line) (λ text. soft_words legs config (words_of text)) answer (IsKept legs config answer) (λ text _ last. soft_words_keep legs config (words_of text) answer last) is

-- the same of the answer
pub answer_keeps : (legs : ℕ) (config : Config) (line : List ℕ) (answer : Result (Option ℕ × Event) LineError) → parsed_leg answer ≡ soft_meaning legs config line → IfOk answer (λ said. IsOfSoft legs config said.0 (parsed_of said.1))
answer_keeps legs config line (Ok said) says = soft_keeps legs config line (said.0, parsed_of said.1) (sym says)
answer_keeps legs config line (Err error) says = tt
