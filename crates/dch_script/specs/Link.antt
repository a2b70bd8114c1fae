-- The lines of the command `link`.
use Rattle.std.specs.Prelude.{◌||◌, ℕ, List, Bool, Result, Ok, Err, codes, if◌then◌else◌}
use Rattle.std.specs.Str.{bytes_eq}
use Rattle.dch_types.specs.declared.config.Config.{Config}
use Rattle.dch_script.specs.declared.event.LineError.{LineError}
use Rattle.dch_script.specs.declared.event.LineError.TheVariants.{Word}
use Rattle.dch_script.specs.Forms.{alone, one, two, three, four}
use Rattle.dch_script.specs.Parts.{combination_of, count_of, dir_of, iub_dir_of, mask_of, number_in, part_of, set_of}
use Rattle.dch_script.specs.ParsedLine.{ParsedLine, block, free, flip, lose, lose_iub, spoil, frame, ◌>>=◌}
use Rattle.dch_script.specs.Units.{unit_of}

-- `unit DIR BEARER TEXT`
unfoldable pub link_unit : Config → List (List ℕ) → Result ParsedLine LineError
link_unit config words = do
  w ← three words
  dir ← dir_of w.0
  unit_of config dir w.1 w.2

-- `block DIR COMBINATION`
unfoldable pub link_block : Config → List (List ℕ) → Result ParsedLine LineError
link_block config words = do
  w ← two words
  dir ← dir_of w.0
  c ← combination_of config dir w.1
  Ok (block dir c)

-- `free DIR COMBINATION`
unfoldable pub link_free : Config → List (List ℕ) → Result ParsedLine LineError
link_free config words = do
  w ← two words
  dir ← dir_of w.0
  c ← combination_of config dir w.1
  Ok (free dir c)

-- `flip DIR PART PLACE`
unfoldable pub link_flip : List (List ℕ) → Result ParsedLine LineError
link_flip words = do
  w ← three words
  dir ← dir_of w.0
  tfci ← part_of w.1
  place ← number_in 65535 w.2
  Ok (flip dir tfci place)

abbrev pub lose_of : Config → List (List ℕ) → Result (List ℕ × List ℕ) LineError → Result ParsedLine LineError
lose_of config words (Ok w) = do
  dir ← iub_dir_of w.0
  set ← set_of config dir w.1
  Ok (lose_iub dir set)
lose_of config words (Err error) = do
  word ← one words
  dir ← dir_of word
  Ok (lose dir)

-- `lose iubdown SET` and `lose iubup SET`, or `lose DIR`
unfoldable pub link_lose : Config → List (List ℕ) → Result ParsedLine LineError
link_lose config words = lose_of config words (two words)

-- `spoil iubdown SET OCTET MASK` and `spoil iubup SET OCTET MASK`
unfoldable pub link_spoil : Config → List (List ℕ) → Result ParsedLine LineError
link_spoil config words = do
  w ← four words
  dir ← iub_dir_of w.0
  set ← set_of config dir w.1
  octet ← number_in 65535 w.2
  mask ← mask_of w.3
  Ok (spoil dir set octet mask)

abbrev pub frames_of : List (List ℕ) → Result (List ℕ) LineError → Result ParsedLine LineError
frames_of words (Ok word) = do
  count ← count_of word
  Ok (frame count)
frames_of words (Err error) = alone (frame 1) words

-- `frame N`, or `frame`
unfoldable pub link_frame : List (List ℕ) → Result ParsedLine LineError
link_frame words = frames_of words (one words)

-- what a line of units, combinations or radio frames says by its first word and the words after it
unfoldable pub traffic_words : Config → List ℕ → List (List ℕ) → Result ParsedLine LineError
traffic_words config first words =
    if bytes_eq first (codes "unit") then link_unit config words else (
    if bytes_eq first (codes "block") then link_block config words else (
    if bytes_eq first (codes "free") then link_free config words else (
    if bytes_eq first (codes "frame") then link_frame words else Err Word)))

-- what a line of damage says
unfoldable pub damage_words : Config → List ℕ → List (List ℕ) → Result ParsedLine LineError
damage_words config first words =
    if bytes_eq first (codes "flip") then link_flip words else (
    if bytes_eq first (codes "lose") then link_lose config words else (
    if bytes_eq first (codes "spoil") then link_spoil config words else Err Word))

-- the first word of a line of damage
unfoldable pub names_damage : List ℕ → Bool
names_damage first = bytes_eq first (codes "flip") || (bytes_eq first (codes "lose") || bytes_eq first (codes "spoil"))

-- what a line of `link` says
unfoldable pub link_words : Config → List ℕ → List (List ℕ) → Result ParsedLine LineError
link_words config first words = if names_damage first then damage_words config first words
    else traffic_words config first words
