-- The text of the lines of a report.
use Rattle.std.specs.Prelude.{ℕ, List, [], ◌∷◌, ◌++◌, codes, map, decimal}
use Rattle.dch_bits.specs.declared.bit.Bit.{Bit}
use Rattle.dch_bits.specs.declared.bit.Trit.{Trit}
use Rattle.dch_bits.specs.Text.{letter_of, cell_letter}
use Rattle.dch_types.specs.declared.channel.Dir.{Dir}
use Rattle.dch_types.specs.declared.channel.Dir.TheVariants.{Up, Down}
use Rattle.hex.specs.Hex.{encode_lower}
use Rattle.dch_script.specs.declared.report.Line.{Line}
use Rattle.dch_script.specs.declared.report.Line.TheVariants.{Open, Took, Full, Wrong, Iub, Phy, PhyNone, BadTti, Bad, IubBad, Reserved, NoBearer, Nobody, PduBad, Outside, Overlong, GotBits, GotOctets, Differs, Coded, EndFrames, EndLines, Accepted}

-- the letters of bits, and a dot for no bit
abbrev pub bits_shown : List Bit → List ℕ
bits_shown [] = codes "."
bits_shown (bit ∷ bits) = map letter_of (bit ∷ bits)

-- the letters of cells, and a dot for no cell
abbrev pub cells_shown : List Trit → List ℕ
cells_shown [] = codes "."
cells_shown (cell ∷ cells) = map cell_letter (cell ∷ cells)

-- octets in lower-case hexadecimal, and a dot for none
abbrev pub octets_shown : List ℕ → List ℕ
octets_shown [] = codes "."
octets_shown (octet ∷ octets) = encode_lower (octet ∷ octets)

abbrev pub dir_word : Dir → List ℕ
dir_word Up = codes "up"
dir_word Down = codes "down"

-- a word, a direction and a number
unfoldable pub place_text : List ℕ → Dir → ℕ → List ℕ
place_text word dir n = word ++ dir_word dir ++ codes " " ++ decimal n

-- and one more number
unfoldable pub pair_text : List ℕ → Dir → ℕ → ℕ → List ℕ
pair_text word dir n more = place_text word dir n ++ codes " " ++ decimal more

-- an Iub frame of a set
unfoldable pub iub_text : Dir → ℕ → List ℕ → List ℕ
iub_text dir set frame = codes "iub" ++ dir_word dir ++ codes " " ++ decimal set ++ codes " " ++ octets_shown frame

-- a radio frame
unfoldable pub phy_text : Dir → List Bit → List Trit → List ℕ
phy_text dir tfci cells = codes "phy" ++ dir_word dir ++ codes " " ++ bits_shown tfci ++ codes " " ++ cells_shown cells

-- a unit that is handed up
unfoldable pub unit_text : Dir → ℕ → List ℕ → List ℕ
unit_text dir bearer unit = place_text (codes "got ") dir bearer ++ codes " " ++ unit

-- a line without its line feed
abbrev pub words_text : Line → List ℕ
words_text Open = codes "open"
words_text (Took dir bearer) = place_text (codes "took ") dir bearer
words_text (Full dir bearer) = place_text (codes "full ") dir bearer
words_text (Wrong dir bearer) = place_text (codes "wrong ") dir bearer
words_text (Iub dir set frame) = iub_text dir set frame.now
words_text (Phy dir tfci cells) = phy_text dir tfci.now cells.now
words_text PhyNone = codes "phydown none"
words_text (BadTti dir channel frame) = pair_text (codes "badtti ") dir channel frame
words_text (Bad dir channel block) = pair_text (codes "bad ") dir channel block
words_text (IubBad dir set number) = pair_text (codes "iubbad ") dir set number
words_text (Reserved dir channel) = place_text (codes "reserved ") dir channel
words_text (NoBearer dir channel ct) = pair_text (codes "nobearer ") dir channel ct
words_text (Nobody dir channel) = place_text (codes "nobody ") dir channel
words_text (PduBad dir bearer number) = pair_text (codes "pdubad ") dir bearer number
words_text (Outside dir bearer) = place_text (codes "outside ") dir bearer
words_text (Overlong dir bearer) = place_text (codes "overlong ") dir bearer
words_text (GotBits dir bearer bits) = unit_text dir bearer (bits_shown bits.now)
words_text (GotOctets dir bearer octets) = unit_text dir bearer (octets_shown octets.now)
words_text (Differs dir channel) = place_text (codes "false ") dir channel
words_text (Coded bits) = codes "coded " ++ bits_shown bits.now
words_text (EndFrames count) = codes "end frames=" ++ decimal count
words_text (EndLines count) = codes "end lines=" ++ decimal count
words_text (Accepted count) = codes "accepted count=" ++ decimal count

-- the text of a line of a report, with its line feed
abbrev pub line_text : Line → List ℕ
line_text line = words_text line ++ codes "\n"
