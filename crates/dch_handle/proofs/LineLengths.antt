-- How short the text of a line is at least: 8 bytes, and as many as the octets behind it.
use Rattle.std.proofs.Common.{◌≡◌, ◌≤◌, ◌+◌, ◌*◌, ◌++◌, ◌∙◌, ℕ, List, [], ◌∷◌, length, map, arith, refl, ap, sym, length-append}
use Rattle.std.specs.Prelude.{codes, decimal}
use Rattle.std.proofs.lemmas.List.{length-map}
use Rattle.hex.specs.Hex.{lower_digits}
use Rattle.hex.proofs.HexLemmas.{length-encode_with}
use Rattle.dch_bits.specs.declared.bit.Bit.{Bit}
use Rattle.dch_bits.specs.declared.bit.Trit.{Trit}
use Rattle.dch_bits.specs.Text.{cell_letter, letter_of}
use Rattle.dch_types.specs.declared.channel.Dir.{Dir}
use Rattle.dch_types.specs.declared.channel.Dir.TheVariants.{Up, Down}
use Rattle.dch_indication.specs.Lines.{Line, Took, Full, Wrong, Bad, Reserved, NoBearer, Nobody, PduBad, Outside, Overlong, Got, GotBits, Iub, IubBad, Phy, PhyNone, BadTti, Differs}
use Rattle.dch_script.specs.LineText.{text_of, words_of}
use Rattle.dch_script.specs.Report.{bits_shown, cells_shown, dir_word, iub_text, octets_shown, pair_text, phy_text, place_text, unit_text}
use Rattle.dch_handle.specs.Telling.{all_long, payload_of, payloads, told_of}

dir_long : (dir : Dir) → 2 ≤ length (dir_word dir)
dir_long Up = omega arith
dir_long Down = omega arith

bits_long : (bits : List Bit) → length bits ≤ length (bits_shown bits)
bits_long [] = omega arith
bits_long (b ∷ bits) = let long : length (map letter_of (b ∷ bits)) ≡ length (b ∷ bits) = length-map (b ∷ bits) letter_of in omega (arith, long)

cells_long : (cells : List Trit) → length cells ≤ length (cells_shown cells)
cells_long [] = omega arith
cells_long (c ∷ cells) = let long : length (map cell_letter (c ∷ cells)) ≡ length (c ∷ cells) = length-map (c ∷ cells) cell_letter in omega (arith, long)

octets_long : (octets : List ℕ) → length octets ≤ length (octets_shown octets)
octets_long [] = omega arith
octets_long (x ∷ xs) = let long : length (octets_shown (x ∷ xs)) ≡ 2 * length (x ∷ xs) = length-encode_with lower_digits (x ∷ xs) in omega (arith, long)

-- a line is long enough for so many octets behind it
record IsLong (words payload : List ℕ) : Type 0 where
  least : 7 ≤ length words
  behind : length payload ≤ length words

place : (word : List ℕ) (dir : Dir) (n : ℕ) → 4 ≤ length word → 7 ≤ length (place_text word dir n)
unfolding place_text
place word dir n few =
    let one : length (codes " ") ≡ 1 = refl in
    simp length-append (omega (arith, dir_long dir, one, few))

pair : (word : List ℕ) (dir : Dir) (n more : ℕ) → 4 ≤ length word → 7 ≤ length (pair_text word dir n more)
unfolding pair_text place_text
pair word dir n more few =
    let one : length (codes " ") ≡ 1 = refl in
    simp length-append (omega (arith, dir_long dir, one, few))

got : (dir : Dir) (b : ℕ) (unit : List ℕ) → 7 + length unit ≤ length (unit_text dir b unit)
unfolding unit_text place_text
got dir b unit =
    let one : length (codes " ") ≡ 1 = refl in
    let word : length (codes "got ") ≡ 4 = refl in
    simp length-append (omega (arith, dir_long dir, one, word))

frame : (dir : Dir) (set : ℕ) (octets : List ℕ) → 7 + length octets ≤ length (iub_text dir set octets)
unfolding iub_text
frame dir set octets =
    let one : length (codes " ") ≡ 1 = refl in
    let word : length (codes "iub") ≡ 3 = refl in
    simp length-append (omega (arith, dir_long dir, octets_long octets, one, word))

radio : (dir : Dir) (tfci : List Bit) (cells : List Trit) → 7 + (length tfci + length cells) ≤ length (phy_text dir tfci cells)
unfolding phy_text
radio dir tfci cells =
    let one : length (codes " ") ≡ 1 = refl in
    let word : length (codes "phy") ≡ 3 = refl in
    simp length-append (omega (arith, dir_long dir, bits_long tfci, cells_long cells, one, word))

letters : (tfci : List Bit) (cells : List Trit) → length (map letter_of tfci ++ map cell_letter cells) ≡ length tfci + length cells
letters tfci cells =
    let bits = length-map tfci letter_of in
    let places = length-map cells cell_letter in
    omega (arith, length-append (map letter_of tfci) (map cell_letter cells), bits, places)

short : (words : List ℕ) → 7 ≤ length words → IsLong words []
short words least = record { least = least; behind = omega arith }

line_long : (line : Line) → IsLong (words_of line) (payload_of line)
line_long (Took dir b) = short _ (place (codes "took ") dir b (omega arith))
line_long (Full dir b) = short _ (place (codes "full ") dir b (omega arith))
line_long (Wrong dir b) = short _ (place (codes "wrong ") dir b (omega arith))
line_long (Bad dir i k) = short _ (pair (codes "bad ") dir i k (omega arith))
line_long (Reserved dir i) = short _ (place (codes "reserved ") dir i (omega arith))
line_long (NoBearer dir i ct) = short _ (pair (codes "nobearer ") dir i ct (omega arith))
line_long (Nobody dir i) = short _ (place (codes "nobody ") dir i (omega arith))
line_long (PduBad dir b n) = short _ (pair (codes "pdubad ") dir b n (omega arith))
line_long (Outside dir b) = short _ (place (codes "outside ") dir b (omega arith))
line_long (Overlong dir b) = short _ (place (codes "overlong ") dir b (omega arith))
line_long (Got dir b octets) = let long = got dir b (octets_shown octets) in
    record { least = omega (arith, long); behind = omega (arith, long, octets_long octets) }
line_long (GotBits dir b bits) = let long = got dir b (bits_shown bits) in
    record { least = omega (arith, long); behind = omega (arith, long, bits_long bits, length-map bits letter_of) }
line_long (Iub dir set octets) = let long = frame dir set octets in record { least = omega (arith, long); behind = omega (arith, long) }
line_long (IubBad dir set n) = short _ (pair (codes "iubbad ") dir set n (omega arith))
line_long (Phy dir tfci cells) = let long = radio dir tfci cells in
    record { least = omega (arith, long); behind = omega (arith, long, letters tfci cells) }
line_long PhyNone = short _ (omega arith)
line_long (BadTti dir i n) = short _ (pair (codes "badtti ") dir i n (omega arith))
line_long (Differs dir i) = short _ (place (codes "false ") dir i (omega arith))

-- lines have 8 bytes of text each, and as many as all octets behind them
pub record AreLong (lines : List Line) : Type 0 where
  pub least : 8 * length lines ≤ length (text_of lines)
  pub behind : length (payloads lines) ≤ length (text_of lines)

pub lines_long : (lines : List Line) → AreLong lines
lines_long [] = record { least = omega arith; behind = omega arith }
lines_long (line ∷ lines) =
    let rest = lines_long lines in
    let own = line_long line in
    let feed : length (codes "\n") ≡ 1 = refl in
    let text : length (text_of (line ∷ lines)) ≡ length (words_of line) + length (codes "\n" ++ text_of lines)
    = length-append (words_of line) (codes "\n" ++ text_of lines) in
    let behind : length (codes "\n" ++ text_of lines) ≡ length (codes "\n") + length (text_of lines)
    = length-append (codes "\n") (text_of lines) in
    record {
      least = omega (arith, text, behind, feed, rest.least, own.least);
      behind = omega (arith, text, behind, feed, rest.behind, own.behind, length-append (payload_of line) (payloads lines));
    }

-- the length of a value is that of its octets
own_long : (line : Line) → (told_of line).length ≡ length (payload_of line)
own_long (Took dir b) = refl
own_long (Full dir b) = refl
own_long (Wrong dir b) = refl
own_long (Bad dir i k) = refl
own_long (Reserved dir i) = refl
own_long (NoBearer dir i ct) = refl
own_long (Nobody dir i) = refl
own_long (PduBad dir b n) = refl
own_long (Outside dir b) = refl
own_long (Overlong dir b) = refl
own_long (Got dir b octets) = refl
own_long (GotBits dir b bits) = sym (length-map bits letter_of)
own_long (Iub dir set octets) = refl
own_long (IubBad dir set n) = refl
own_long (Phy dir tfci cells) = sym (letters tfci cells)
own_long PhyNone = refl
own_long (BadTti dir i n) = refl
own_long (Differs dir i) = refl

pub all_behind : (lines : List Line) → length (payloads lines) ≡ all_long (map told_of lines)
all_behind [] = refl
all_behind (line ∷ lines) = omega (arith, own_long line, all_behind lines, length-append (payload_of line) (payloads lines))
