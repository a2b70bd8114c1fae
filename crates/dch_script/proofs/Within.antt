-- The words of a line are no longer than it.
use Rattle.std.proofs.Common.{◌≡◌, ◌≤◌, ◌+◌, ℕ, List, [], ◌∷◌, ◌++◌, Bool, true, false, Result, Ok, Err, refl, sym, subst, arith, length, length-append, IfOk, if◌then◌else◌}
use Rattle.std.specs.Prelude.{codes, nat_lt}
use Rattle.std.specs.Str.{bytes_eq}
use Rattle.std.proofs.lemmas.Bool.Decides.{nat_tests}
use Rattle.dch_types.specs.declared.channel.Dir.{Dir}
use Rattle.dch_types.specs.declared.channel.Dir.TheVariants.{Up, Down}
use Rattle.dch_types.specs.declared.config.Config.{Config}
use Rattle.dch_script.specs.declared.event.Command.{Command}
use Rattle.dch_script.specs.declared.event.Command.TheVariants.{Encode, Link, Ue, NodeB, Rnc}
use Rattle.dch_script.specs.declared.event.Event.{Event}
use Rattle.dch_script.specs.declared.event.LineError.{LineError}
use Rattle.dch_script.specs.declared.event.LineError.TheVariants.{Long, Cut, Text}
use Rattle.dch_script.specs.Code.{content, is_ended, longest}
use Rattle.dch_script.specs.Forms.{two}
use Rattle.dch_script.specs.Good.{IsGood, IsOfEncode, IsOfLink, IsOfUe, IsWithin}
use Rattle.dch_script.specs.Meaning.{command_words, content_of, meaning_in}
use Rattle.dch_script.specs.Nodes.{node_iub, node_b_words, rnc_words}
use Rattle.dch_script.specs.Parts.{hex_of, set_of}
use Rattle.dch_script.specs.ParsedLine.{ParsedLine, iub, down, tick, change, parsed, parsed_of}
use Rattle.dch_script.specs.Texts.{is_octets}
use Rattle.dch_script.specs.LineWords.{is_space, words_from, words_of}
use Rattle.dch_script.proofs.Judged.{meaning_keeps}
use Rattle.dch_script.proofs.Kept.{alone_keeps, bind_keeps, if_keeps, ok_keeps, provided_keeps}
use Rattle.dch_script.proofs.NodesKept.{node_phy_keeps, node_block_keeps, node_free_keeps, node_unit_keeps}

-- words of at most so many bytes each
abbrev AreShort : ℕ → List (List ℕ) → Type 0
AreShort n [] = Unit {0}
AreShort n (word ∷ words) = (length word ≤ n) × AreShort n words

words_short : (n : ℕ) (front text : List ℕ) → length front + length text ≤ n → AreShort n (words_from front text)
words_short n front [] fits = (omega arith, tt)
words_short n front (c ∷ text) fits =
    elim (is_space c) as (λ t. AreShort n (if t then front ∷ words_from [] text else words_from (front ++ c ∷ []) text))
    [ true ↦ (omega arith, words_short n [] text (omega arith)) | false ↦ words_short n (front ++ c ∷ []) text (simp length-append (omega arith)) ]

second_short : (n : ℕ) (words : List (List ℕ)) (w : List ℕ × List ℕ) → AreShort n words → two words ≡ Ok w → length w.1 ≤ n
second_short n [] w short is = absurd (cc)
second_short n (a ∷ []) w short is = absurd (cc)
second_short n (a ∷ (b ∷ [])) w short is =
    let same : (a, b) ≡ w = cc in
    subst (λ (v : List ℕ × List ℕ). length v.1 ≤ n) same short.1.0
second_short n (a ∷ (b ∷ (d ∷ words))) w short is = absurd (cc)

hex_short : (n : ℕ) (word hex : List ℕ) → length word ≤ n → hex_of word ≡ Ok hex → length hex ≤ n
unfolding hex_of
hex_short n word hex short is = provided_keeps (is_octets word) word hex Text (λ (t : List ℕ). length t ≤ n) (λ yes. short) is

iub_short : (config : Config) (dir : Dir) (words : List (List ℕ)) (parsed : ParsedLine) → AreShort longest words → node_iub config dir words ≡ Ok parsed → IsWithin parsed
unfolding node_iub
iub_short config dir words parsed short is =
    bind_keeps (two words) _ parsed (IsWithin parsed) (λ w both rest.
    bind_keeps (set_of config dir w.0) _ parsed (IsWithin parsed) (λ set held more.
    bind_keeps (hex_of w.1) _ parsed (IsWithin parsed) (λ hex octets last.
    ok_keeps (iub set hex) parsed IsWithin (hex_short longest w.1 hex (second_short longest words w short both) octets) _ refl last) more) rest) is

node_b_short : (config : Config) (first : List ℕ) (words : List (List ℕ)) (parsed : ParsedLine) → AreShort longest words → node_b_words config first words ≡ Ok parsed → IsWithin parsed
unfolding node_b_words
node_b_short config first words parsed short is =
    let P = IsWithin parsed in
    if_keeps (bytes_eq first (codes "iub")) _ _ parsed P (iub_short config Down words parsed short) (λ not_iub.
    if_keeps (bytes_eq first (codes "down")) _ _ parsed P (alone_keeps down parsed words IsWithin tt) (λ not_down.
    if_keeps (bytes_eq first (codes "phy")) _ _ parsed P (node_phy_keeps config Up words parsed IsWithin (λ tfci cells good. tt) tt) (λ not_phy.
    if_keeps (bytes_eq first (codes "change")) _ _ parsed P (alone_keeps change parsed words IsWithin tt) (λ none. absurd (cc)) not_phy) not_down) not_iub) is

rnc_short : (config : Config) (first : List ℕ) (words : List (List ℕ)) (parsed : ParsedLine) → AreShort longest words → rnc_words config first words ≡ Ok parsed → IsWithin parsed
unfolding rnc_words
rnc_short config first words parsed short is =
    let P = IsWithin parsed in
    if_keeps (bytes_eq first (codes "unit")) _ _ parsed P (node_unit_keeps config Down words parsed IsWithin (λ b t good. tt)) (λ not_unit.
    if_keeps (bytes_eq first (codes "block")) _ _ parsed P (node_block_keeps config Down words parsed IsWithin (λ c good. tt)) (λ not_block.
    if_keeps (bytes_eq first (codes "free")) _ _ parsed P (node_free_keeps config Down words parsed IsWithin (λ c good. tt)) (λ not_free.
    if_keeps (bytes_eq first (codes "iub")) _ _ parsed P (iub_short config Up words parsed short) (λ not_iub.
    if_keeps (bytes_eq first (codes "tick")) _ _ parsed P (alone_keeps tick parsed words IsWithin tt) (λ not_tick.
    if_keeps (bytes_eq first (codes "change")) _ _ parsed P (alone_keeps change parsed words IsWithin tt) (λ none. absurd (cc)) not_tick) not_iub) not_free) not_block) not_unit) is

-- the events of the other commands have no octets of a frame
encode_within : (parsed : ParsedLine) → IsOfEncode parsed → IsWithin parsed
encode_within (iub set hex) good = absurd good
encode_within parsed good = tt

link_within : (config : Config) (parsed : ParsedLine) → IsOfLink config parsed → IsWithin parsed
link_within config (iub set hex) good = absurd good
link_within config parsed good = tt

ue_within : (config : Config) (parsed : ParsedLine) → IsOfUe config parsed → IsWithin parsed
ue_within config (iub set hex) good = absurd good
ue_within config parsed good = tt

command_short : (command : Command) (config : Config) (words : List (List ℕ)) (parsed : ParsedLine) → AreShort longest words → IsGood command config parsed → command_words command config words ≡ Ok parsed → IsWithin parsed
command_short Encode config words parsed short good is = encode_within parsed good
command_short Link config words parsed short good is = link_within config parsed good
command_short Ue config words parsed short good is = ue_within config parsed good
command_short NodeB config [] parsed short good is = absurd (cc)
command_short Rnc config [] parsed short good is = absurd (cc)
command_short NodeB config (first ∷ words) parsed short good is = node_b_short config first words parsed short.1 is
command_short Rnc config (first ∷ words) parsed short good is = rnc_short config first words parsed short.1 is

content_short : (line text : List ℕ) → content_of line ≡ Ok text → length text ≤ longest
content_short line text is = cases (nat_lt longest (length (content line))) (is_ended line) refl is
  where
    cases : (long ended : Bool) → nat_lt longest (length (content line)) ≡ long → (if long then Err Long else (if ended then Ok (content line) else Err Cut)) ≡ Ok text → length text ≤ longest
    cases true ended test is = absurd (cc)
    cases false true test is =
        let same : content line ≡ text = cc in
        let fits : length (content line) ≤ longest = grind (arith, nat_tests) in
        subst (λ (t : List ℕ). length t ≤ longest) same fits
    cases false false test is = absurd (cc)

meaning_within : (command : Command) (config : Config) (line : List ℕ) (parsed : ParsedLine) → meaning_in command config line ≡ Ok parsed → IsWithin parsed
unfolding meaning_in
meaning_within command config line parsed is =
    bind_keeps (content_of line) (λ text. command_words command config (words_of text)) parsed (IsWithin parsed)
    (λ text read last.
    let fits = content_short line text read in
    command_short command config (words_of text) parsed (words_short longest [] text (omega (arith, fits))) (meaning_keeps command config line parsed is) last) is

pub event_within : (command : Command) (config : Config) (line : List ℕ) (answer : Result Event LineError) → parsed answer ≡ meaning_in command config line → IfOk answer (λ event. IsWithin (parsed_of event))
event_within command config line (Ok event) says = meaning_within command config line (parsed_of event) (sym says)
event_within command config line (Err error) says = tt
