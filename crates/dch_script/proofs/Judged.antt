-- What an answer to a line says, and what it keeps.
use Rattle.std.proofs.Common.{◌≡◌, ℕ, List, [], ◌∷◌, Option, Some, None, Result, Ok, Err, true, false, refl, sym, IfOk, if◌then◌else◌}
use Rattle.std.specs.Prelude.{codes}
use Rattle.std.specs.Str.{bytes_eq}
use Rattle.dch_types.specs.declared.channel.Coding.{Coding}
use Rattle.dch_types.specs.declared.channel.Crc.{Crc}
use Rattle.dch_types.specs.declared.config.Config.{Config}
use Rattle.dch_script.specs.declared.event.Command.{Command}
use Rattle.dch_script.specs.declared.event.Command.TheVariants.{Encode, Link, Ue, NodeB, Rnc}
use Rattle.dch_script.specs.declared.event.Event.{Event}
use Rattle.dch_script.specs.declared.event.Event.TheVariants.{Code}
use Rattle.dch_script.specs.declared.event.LineError.{LineError}
use Rattle.dch_script.specs.declared.event.LineError.TheVariants.{Text}
use Rattle.dch_script.specs.Code.{CodeLine, IsSaid, code_of, code_words, coding_of, crc_of, is_bits, line_words}
use Rattle.dch_script.specs.Good.{IsGood, IsOfEncode}
use Rattle.dch_script.specs.Meaning.{code_parsed, command_words, content_of, meaning_in}
use Rattle.dch_script.specs.ParsedLine.{ParsedLine, code, parsed, parsed_of, ◌>>=◌}
use Rattle.dch_script.specs.LineWords.{words_of}
use Rattle.dch_script.proofs.Kept.{bind_keeps, if_keeps, ok_keeps}
use Rattle.dch_script.proofs.LinkKept.{link_keeps}
use Rattle.dch_script.proofs.NodesKept.{ue_keeps, node_b_keeps, rnc_keeps}

-- an answer for `encode` says what is meant
pub code_is_parsed : (meant : Result CodeLine LineError) (answer : Result Event LineError) → IsSaid meant answer → parsed answer ≡ (meant >>= code_parsed)
code_is_parsed meant (Ok (Code coding crc bits)) is = rw is.0 refl
code_is_parsed meant (Err error) is = rw is refl
code_is_parsed meant (Ok event) is = absurd is

abbrev HasBits : CodeLine → Type 0
HasBits line = is_bits 5000 line.bits ≡ true

-- the text of a transport block is bits
code_of_keeps : (coding : Option Coding) (crc : Option Crc) (bits : List ℕ) (line : CodeLine) → code_of coding crc bits ≡ Ok line → HasBits line
code_of_keeps (Some coding) (Some crc) bits line is =
    elim (is_bits 5000 bits) as (λ t. is_bits 5000 bits ≡ t → (if t then Ok (record { coding = coding; crc = crc; bits = bits }) else Err Text) ≡ Ok line → HasBits line)
    [ true ↦ (λ good last. ok_keeps (record { coding = coding; crc = crc; bits = bits }) line HasBits good _ refl last) | false ↦ (λ bad wrong. absurd (cc)) ] refl is
code_of_keeps (Some coding) None bits line is = absurd (cc)
code_of_keeps None crc bits line is = absurd (cc)

-- the same of the words after `code`
code_words_keeps : (words : List (List ℕ)) (line : CodeLine) → code_words words ≡ Ok line → HasBits line
code_words_keeps [] line is = absurd (cc)
code_words_keeps (coding ∷ []) line is = absurd (cc)
code_words_keeps (coding ∷ (crc ∷ [])) line is = absurd (cc)
code_words_keeps (coding ∷ (crc ∷ (bits ∷ []))) line is = code_of_keeps (coding_of coding) (crc_of crc) bits line is
code_words_keeps (coding ∷ (crc ∷ (bits ∷ (more ∷ words)))) line is = absurd (cc)

-- the same of all words
line_words_keeps : (words : List (List ℕ)) (line : CodeLine) → line_words words ≡ Ok line → HasBits line
line_words_keeps [] line is = absurd (cc)
line_words_keeps (first ∷ rest) line is =
    if_keeps (bytes_eq first (codes "code")) _ _ line (HasBits line) (code_words_keeps rest line) (λ wrong. absurd (cc)) is

-- every line of `encode`
encode_keeps : (words : List (List ℕ)) (parsed : ParsedLine) → (line_words words >>= code_parsed) ≡ Ok parsed → IsOfEncode parsed
encode_keeps words parsed is =
    bind_keeps (line_words words) code_parsed parsed (IsOfEncode parsed) (λ line good last.
    ok_keeps (code line.coding line.crc line.bits) parsed IsOfEncode (line_words_keeps words line good) _ refl last) is

-- every line of a command
command_keeps : (command : Command) (config : Config) (words : List (List ℕ)) (parsed : ParsedLine) → command_words command config words ≡ Ok parsed → IsGood command config parsed
command_keeps Encode config words parsed is = encode_keeps words parsed is
command_keeps Link config [] parsed is = absurd (cc)
command_keeps Ue config [] parsed is = absurd (cc)
command_keeps NodeB config [] parsed is = absurd (cc)
command_keeps Rnc config [] parsed is = absurd (cc)
command_keeps Link config (first ∷ words) parsed is = link_keeps config first words parsed is
command_keeps Ue config (first ∷ words) parsed is = ue_keeps config first words parsed is
command_keeps NodeB config (first ∷ words) parsed is = node_b_keeps config first words parsed is
command_keeps Rnc config (first ∷ words) parsed is = rnc_keeps config first words parsed is

-- what a line says is an event that its command knows, with good words
pub meaning_keeps : (command : Command) (config : Config) (line : List ℕ) (parsed : ParsedLine) → meaning_in command config line ≡ Ok parsed → IsGood command config parsed
unfolding meaning_in
meaning_keeps command config line parsed is =
    bind_keeps (content_of line) (λ text. command_words command config (words_of text)) parsed (IsGood command config parsed) (λ text _ last. command_keeps command config (words_of text) parsed last) is

-- the same of the answer
pub event_keeps : (command : Command) (config : Config) (line : List ℕ) (answer : Result Event LineError) → parsed answer ≡ meaning_in command config line → IfOk answer (λ event. IsGood command config (parsed_of event))
event_keeps command config line (Ok event) says = meaning_keeps command config line (parsed_of event) (sym says)
event_keeps command config line (Err error) says = tt
