-- The lines of the command `pair`.
use Rattle.std.specs.Prelude.{◌≡◌, ◌≤◌, ℕ, List, [], ◌∷◌, Bool, true, false, Result, Ok, Err, codes, if◌then◌else◌}
use Rattle.std.specs.Str.{bytes_eq}
use Rattle.dch_types.specs.declared.bearer.Mode.TheVariants.{Am}
use Rattle.dch_script.specs.declared.event.LineError.{LineError}
use Rattle.dch_script.specs.declared.event.LineError.TheVariants.{Word, Text}
use Rattle.dch_script.specs.declared.pair.PairLine.{PairLine}
use Rattle.dch_script.specs.declared.pair.PairLine.TheVariants.{Ends, Offer, Build, Arrive, Lose, Tick, Reset}
use Rattle.dch_script.specs.Forms.{one, two, four}
use Rattle.dch_script.specs.LineWords.{words_of}
use Rattle.dch_script.specs.Meaning.{content_of}
use Rattle.dch_script.specs.ParsedLine.{◌>>=◌}
use Rattle.dch_script.specs.Parts.{number_from}
use Rattle.dch_script.specs.Texts.{is_unit}
use Rattle.dch_script.specs.Units.{text_of}

-- a line with its text as a plain list; an end is 0 for `a` and 1 for `b`
pub data ParsedPair : Type 0 where
  ends : ℕ → ℕ → ℕ → ℕ → ParsedPair  -- the octets of a PDU of either end, the buffer and the window
  offer : ℕ → List ℕ → ParsedPair  -- the end and the hexadecimal text of the unit
  build : ℕ → ParsedPair
  arrive : ℕ → ParsedPair  -- the end to which the block goes
  lose : ℕ → ParsedPair
  tick : ℕ → ParsedPair
  reset : ℕ → ParsedPair

-- what a line that was read says
abbrev pub pair_of : PairLine → ParsedPair
pair_of (Ends first second buffer window) = ends first second buffer window
pair_of (Offer end hex) = offer end hex.now
pair_of (Build end) = build end
pair_of (Arrive end) = arrive end
pair_of (Lose end) = lose end
pair_of (Tick end) = tick end
pair_of (Reset end) = reset end

-- what the answer to a line says
abbrev pub parsed_pair : Result PairLine LineError → Result ParsedPair LineError
parsed_pair (Ok line) = Ok (pair_of line)
parsed_pair (Err error) = Err error

-- END
unfoldable pub end_of : List ℕ → Result ℕ LineError
end_of word = if bytes_eq word (codes "a") then Ok 0 else (if bytes_eq word (codes "b") then Ok 1 else Err Text)

-- just one END
unfoldable pub lone_end : List (List ℕ) → Result ℕ LineError
lone_end words = do
  word ← one words
  end_of word

-- `ends P Q BUFFER WINDOW`
unfoldable pub pair_ends : List (List ℕ) → Result ParsedPair LineError
pair_ends words = do
  w ← four words
  first ← number_from 6 126 w.0
  second ← number_from 6 126 w.1
  buffer ← number_from 1 4096 w.2
  window ← number_from 1 2048 w.3
  Ok (ends first second buffer window)

-- `offer END HEX`: HEX is the text of a unit of an acknowledged bearer
unfoldable pub pair_offer : List (List ℕ) → Result ParsedPair LineError
pair_offer words = do
  w ← two words
  end ← end_of w.0
  hex ← text_of Am w.1
  Ok (offer end hex)

-- an event of one end
abbrev pub event_at : (ℕ → ParsedPair) → Result ℕ LineError → Result ParsedPair LineError
event_at event (Ok end) = Ok (event end)
event_at event (Err error) = Err error

-- what an event says by its first word and the words after it
unfoldable pub pair_event : List ℕ → List (List ℕ) → Result ParsedPair LineError
pair_event first words =
    if bytes_eq first (codes "offer") then pair_offer words else (
    if bytes_eq first (codes "build") then event_at build (lone_end words) else (
    if bytes_eq first (codes "arrive") then event_at arrive (lone_end words) else (
    if bytes_eq first (codes "lose") then event_at lose (lone_end words) else (
    if bytes_eq first (codes "tick") then event_at tick (lone_end words) else (
    if bytes_eq first (codes "reset") then event_at reset (lone_end words) else Err Word)))))

-- what a line says so
unfoldable pub pair_words : List ℕ → List (List ℕ) → Result ParsedPair LineError
pair_words first words = if bytes_eq first (codes "ends") then pair_ends words else pair_event first words

abbrev pub pair_line_words : List (List ℕ) → Result ParsedPair LineError
pair_line_words [] = Err Word
pair_line_words (first ∷ words) = pair_words first words

-- what a line of `pair` says
unfoldable pub pair_meaning : List ℕ → Result ParsedPair LineError
pair_meaning line = do
  text ← content_of line
  pair_line_words (words_of text)

-- the first word is `ends`
abbrev pub is_first_ends : List (List ℕ) → Bool
is_first_ends [] = false
is_first_ends (first ∷ words) = bytes_eq first (codes "ends")

unfoldable pub begins_with_ends : List ℕ → Result Bool LineError
begins_with_ends line = do
  text ← content_of line
  Ok (is_first_ends (words_of text))

-- a line opens the ends
abbrev pub is_opening : ParsedPair → Bool
is_opening (ends first second buffer window) = true
is_opening (offer end hex) = false
is_opening (build end) = false
is_opening (arrive end) = false
is_opening (lose end) = false
is_opening (tick end) = false
is_opening (reset end) = false

-- what the lines keep, so that their words can be used without a further look
abbrev pub IsOfPair : ParsedPair → Type 0
IsOfPair (ends first second buffer window) = (6 ≤ first) × (first ≤ 126) × (6 ≤ second) × (second ≤ 126) × (1 ≤ buffer)
    × (buffer ≤ 4096) × (1 ≤ window) × (window ≤ 2048)
IsOfPair (offer end hex) = (end ≤ 1) × (is_unit Am hex ≡ true)
IsOfPair (build end) = end ≤ 1
IsOfPair (arrive end) = end ≤ 1
IsOfPair (lose end) = end ≤ 1
IsOfPair (tick end) = end ≤ 1
IsOfPair (reset end) = end ≤ 1
