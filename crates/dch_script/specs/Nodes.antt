-- The lines of the commands `ue`, `nodeb` and `rnc`.
use Rattle.std.specs.Prelude.{ℕ, List, Result, Ok, Err, codes, if◌then◌else◌}
use Rattle.std.specs.Str.{bytes_eq}
use Rattle.dch_types.specs.declared.channel.Dir.{Dir}
use Rattle.dch_types.specs.declared.channel.Dir.TheVariants.{Up, Down}
use Rattle.dch_types.specs.declared.config.Config.{Config}
use Rattle.dch_script.specs.declared.event.LineError.{LineError}
use Rattle.dch_script.specs.declared.event.LineError.TheVariants.{Word, Text}
use Rattle.dch_script.specs.Forms.{alone, one, two}
use Rattle.dch_script.specs.Parts.{combination_of, hex_of, set_of, tfci_of, provided}
use Rattle.dch_script.specs.ParsedLine.{ParsedLine, block, free, iub, down, phy, phy_none, tick, change, ◌>>=◌}
use Rattle.dch_script.specs.Texts.{are_cells}
use Rattle.dch_script.specs.Units.{unit_of}

-- `unit BEARER TEXT` of a node that sends in a direction
unfoldable pub node_unit : Config → Dir → List (List ℕ) → Result ParsedLine LineError
node_unit config dir words = do
  w ← two words
  unit_of config dir w.0 w.1

-- `block COMBINATION`
unfoldable pub node_block : Config → Dir → List (List ℕ) → Result ParsedLine LineError
node_block config dir words = do
  word ← one words
  c ← combination_of config dir word
  Ok (block dir c)

-- `free COMBINATION`
unfoldable pub node_free : Config → Dir → List (List ℕ) → Result ParsedLine LineError
node_free config dir words = do
  word ← one words
  c ← combination_of config dir word
  Ok (free dir c)

-- `iub SET HEX`: a frame that comes in a direction
unfoldable pub node_iub : Config → Dir → List (List ℕ) → Result ParsedLine LineError
node_iub config dir words = do
  w ← two words
  set ← set_of config dir w.0
  hex ← hex_of w.1
  Ok (iub set hex)

-- CELLS or BITS of a radio frame of a direction
unfoldable pub cells_of : Dir → List ℕ → Result (List ℕ) LineError
cells_of dir text = provided (are_cells dir text) text Text

abbrev pub none_of : List ℕ → Result ParsedLine LineError
none_of word = if bytes_eq word (codes "none") then Ok phy_none else Err Text

abbrev pub phy_of : Config → Dir → List (List ℕ) → Result (List ℕ × List ℕ) LineError → Result ParsedLine LineError
phy_of config dir words (Ok w) = do
  tfci ← tfci_of config dir w.0
  cells ← cells_of dir w.1
  Ok (phy tfci cells)
phy_of config dir words (Err error) = do
  word ← one words
  none_of word

-- `phy TFCI CELLS` or `phy TFCI BITS`, or `phy none`: a radio frame that comes in a direction
unfoldable pub node_phy : Config → Dir → List (List ℕ) → Result ParsedLine LineError
node_phy config dir words = phy_of config dir words (two words)

-- what a line of `ue` says by its first word and the words after it
unfoldable pub ue_words : Config → List ℕ → List (List ℕ) → Result ParsedLine LineError
ue_words config first words =
    if bytes_eq first (codes "unit") then node_unit config Up words else (
    if bytes_eq first (codes "block") then node_block config Up words else (
    if bytes_eq first (codes "free") then node_free config Up words else (
    if bytes_eq first (codes "phy") then node_phy config Down words else (
    if bytes_eq first (codes "tick") then alone tick words else (
    if bytes_eq first (codes "change") then alone change words else Err Word)))))

-- what a line of `nodeb` says
unfoldable pub node_b_words : Config → List ℕ → List (List ℕ) → Result ParsedLine LineError
node_b_words config first words =
    if bytes_eq first (codes "iub") then node_iub config Down words else (
    if bytes_eq first (codes "down") then alone down words else (
    if bytes_eq first (codes "phy") then node_phy config Up words else (
    if bytes_eq first (codes "change") then alone change words else Err Word)))

-- what a line of `rnc` says
unfoldable pub rnc_words : Config → List ℕ → List (List ℕ) → Result ParsedLine LineError
rnc_words config first words =
    if bytes_eq first (codes "unit") then node_unit config Down words else (
    if bytes_eq first (codes "block") then node_block config Down words else (
    if bytes_eq first (codes "free") then node_free config Down words else (
    if bytes_eq first (codes "iub") then node_iub config Up words else (
    if bytes_eq first (codes "tick") then alone tick words else (
    if bytes_eq first (codes "change") then alone change words else Err Word)))))
