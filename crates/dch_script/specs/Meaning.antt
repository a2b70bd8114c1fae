-- What a line of any command says.
use Rattle.std.specs.Prelude.{ℕ, List, [], ◌∷◌, Result, Ok, Err, if◌then◌else◌, length, nat_lt}
use Rattle.dch_types.specs.declared.config.Config.{Config}
use Rattle.dch_script.specs.declared.event.Command.{Command}
use Rattle.dch_script.specs.declared.event.Command.TheVariants.{Encode, Link, Ue, NodeB, Rnc}
use Rattle.dch_script.specs.declared.event.LineError.{LineError}
use Rattle.dch_script.specs.declared.event.LineError.TheVariants.{Long, Cut, Word}
use Rattle.dch_script.specs.Code.{CodeLine, content, is_ended, line_words, longest}
use Rattle.dch_script.specs.Link.{link_words}
use Rattle.dch_script.specs.Nodes.{node_b_words, rnc_words, ue_words}
use Rattle.dch_script.specs.ParsedLine.{ParsedLine, code, ◌>>=◌}
use Rattle.dch_script.specs.LineWords.{words_of}

abbrev pub code_parsed : CodeLine → Result ParsedLine LineError
code_parsed line = Ok (code line.coding line.crc line.bits)

-- what the words of a line of a command say
abbrev pub command_words : Command → Config → List (List ℕ) → Result ParsedLine LineError
command_words Encode config words = line_words words >>= code_parsed
command_words command config [] = Err Word
command_words Link config (first ∷ words) = link_words config first words
command_words Ue config (first ∷ words) = ue_words config first words
command_words NodeB config (first ∷ words) = node_b_words config first words
command_words Rnc config (first ∷ words) = rnc_words config first words

-- the line without its line feed, where it is not too long and has one
abbrev pub content_of : List ℕ → Result (List ℕ) LineError
content_of line = if nat_lt longest (length (content line)) then Err Long
    else (if is_ended line then Ok (content line) else Err Cut)

-- what a line of a command says, under a configuration
unfoldable pub meaning_in : Command → Config → List ℕ → Result ParsedLine LineError
meaning_in command config line = do
  text ← content_of line
  command_words command config (words_of text)
