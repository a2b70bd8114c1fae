-- How long the lines of a report are.
use Rattle.std.proofs.Common.{◌≡◌, ◌<◌, ◌≤◌, ◌+◌, ◌*◌, ◌++◌, ◌∙◌, ℕ, List, [], ◌∷◌, Bool, true, false, cond, length, arith, refl, ap, sym, subst, inl, inr, length-append}
use Rattle.std.specs.Prelude.{codes, decimal, map, nat_lt}
use Rattle.std.proofs.lemmas.Fmt.{length-decimal-le}
use Rattle.std.proofs.lemmas.List.{length-map}
use Rattle.hex.specs.Hex.{lower_digits}
use Rattle.hex.proofs.HexLemmas.{length-encode_with}
use Rattle.dch_bits.specs.declared.bit.Bit.{Bit}
use Rattle.dch_bits.specs.declared.bit.Trit.{Trit}
use Rattle.dch_bits.specs.Text.{cell_letter, letter_of}
use Rattle.dch_types.specs.declared.channel.Dir.{Dir}
use Rattle.dch_types.specs.declared.channel.Dir.TheVariants.{Up, Down}
use Rattle.dch_script.specs.Report.{bits_shown, cells_shown, dir_word, iub_text, octets_shown, pair_text, phy_text, place_text, unit_text}
use Rattle.dch_indication.specs.Lines.{Line, Took, Full, Wrong, Bad, Reserved, NoBearer, Nobody, PduBad, Outside, Overlong, Got, GotBits, Iub, IubBad, Phy, PhyNone, BadTti, Differs}
use Rattle.dch_script.specs.LineText.{text_of}
use Rattle.dch_script.proofs.Adding.{text_of-append}
use Rattle.dch_steptext.specs.ReceiverBytes.{unit_bytes, units_bytes}
use Rattle.dch_layer2.specs.UnitLines.{line_if, unit_line, unit_lines}
use Rattle.dch_steptext.specs.Limits.{AreAllLimited, AreLimited, IsLimited, HasFewWords}

three : (n : ℕ) → n < 1000 → length (decimal n) ≤ 3
three n small = length-decimal-le 3 n (omega arith) (omega arith) (omega arith)

two : (n : ℕ) → n < 100 → length (decimal n) ≤ 2
two n small = length-decimal-le 2 n (omega arith) (omega arith) (omega arith)

dir_long : (dir : Dir) → length (dir_word dir) ≤ 4
dir_long Up = omega arith
dir_long Down = omega arith

bits_long : (bits : List Bit) → length (bits_shown bits) ≤ length bits + 1
bits_long [] = omega arith
bits_long (b ∷ bits) = let long : length (map letter_of (b ∷ bits)) ≡ length (b ∷ bits) = length-map (b ∷ bits) letter_of in omega (arith, long)

octets_long : (x : ℕ) (xs : List ℕ) → length (octets_shown (x ∷ xs)) ≡ 2 * length (x ∷ xs)
octets_long x xs = length-encode_with lower_digits (x ∷ xs)

cells_long : (cells : List Trit) → length (cells_shown cells) ≤ length cells + 1
cells_long [] = omega arith
cells_long (c ∷ cells) = let long : length (map cell_letter (c ∷ cells)) ≡ length (c ∷ cells) = length-map (c ∷ cells) cell_letter in omega (arith, long)

all_octets_long : (octets : List ℕ) → length (octets_shown octets) ≤ 2 * length octets + 1
all_octets_long [] = omega arith
all_octets_long (x ∷ xs) = omega (arith, octets_long x xs)

-- a word, a direction and a number; one more number
place_line : (word : List ℕ) (dir : Dir) (n : ℕ) → length word ≤ 10 → n < 1000 → length (place_text word dir n ++ codes "\n") ≤ 40
unfolding place_text
place_line word dir n few small =
    let one : length (codes " ") ≡ 1 = refl in
    let feed : length (codes "\n") ≡ 1 = refl in
    simp length-append (omega (arith, dir_long dir, three n small, one, feed))

pair_line : (word : List ℕ) (dir : Dir) (n more : ℕ) → length word ≤ 10 → n < 1000 → more < 1000 → length (pair_text word dir n more ++ codes "\n") ≤ 40
unfolding pair_text place_text
pair_line word dir n more few small less =
    let one : length (codes " ") ≡ 1 = refl in
    let feed : length (codes "\n") ≡ 1 = refl in
    simp length-append (omega (arith, dir_long dir, three n small, three more less, one, feed))

-- a line of a few words
pub short_line : (line : Line) → HasFewWords line → length (text_of (line ∷ [])) ≤ 40
short_line (Took dir b) is = place_line (codes "took ") dir b (omega arith) is
short_line (Full dir b) is = place_line (codes "full ") dir b (omega arith) is
short_line (Wrong dir b) is = place_line (codes "wrong ") dir b (omega arith) is
short_line (Bad dir i k) is = pair_line (codes "bad ") dir i k (omega arith) is.0 is.1
short_line (Reserved dir i) is = place_line (codes "reserved ") dir i (omega arith) is
short_line (NoBearer dir i ct) is = pair_line (codes "nobearer ") dir i ct (omega arith) is.0 is.1
short_line (Nobody dir i) is = place_line (codes "nobody ") dir i (omega arith) is
short_line (PduBad dir b n) is = pair_line (codes "pdubad ") dir b n (omega arith) is.0 is.1
short_line (Outside dir b) is = place_line (codes "outside ") dir b (omega arith) is
short_line (Overlong dir b) is = place_line (codes "overlong ") dir b (omega arith) is
short_line (Got dir b octets) is = absurd is
short_line (GotBits dir b bits) is = absurd is
short_line (Iub dir set octets) is = absurd is
short_line (IubBad dir set n) is = pair_line (codes "iubbad ") dir set n (omega arith) is.0 is.1
short_line (Phy dir tfci cells) is = absurd is
short_line PhyNone is = omega arith
short_line (BadTti dir i n) is = pair_line (codes "badtti ") dir i n (omega arith) is.0 is.1
short_line (Differs dir i) is = place_line (codes "false ") dir i (omega arith) is

-- a line on an Iub frame, and on a radio frame
pub iub_line : (dir : Dir) (set : ℕ) (octets : List ℕ) → set < 1000 → length octets ≤ 140000 → length (iub_text dir set octets ++ codes "\n") ≤ 300000
unfolding iub_text
iub_line dir set octets small few =
    let one : length (codes " ") ≡ 1 = refl in
    let word : length (codes "iub") ≡ 3 = refl in
    let feed : length (codes "\n") ≡ 1 = refl in
    simp length-append (omega (arith, dir_long dir, three set small, all_octets_long octets, one, word, feed))

phy_line : (dir : Dir) (tfci : List Bit) (cells : List Trit) → length tfci ≤ 120 → length cells ≤ 57600 → length (phy_text dir tfci cells ++ codes "\n") ≤ 60000
unfolding phy_text
phy_line dir tfci cells bits few =
    let one : length (codes " ") ≡ 1 = refl in
    let word : length (codes "phy") ≡ 3 = refl in
    let feed : length (codes "\n") ≡ 1 = refl in
    simp length-append (omega (arith, dir_long dir, bits_long tfci, cells_long cells, one, word, feed))

-- a line that is limited
pub limited_line : (line : Line) → IsLimited line → length (text_of (line ∷ [])) ≤ 300000
limited_line line (inl short) = omega (arith, short_line line short)
limited_line line (inr (inl iub)) = subst (λ (l : Line). length (text_of (l ∷ [])) ≤ 300000) (sym iub.is) (iub_line iub.dir iub.set iub.octets iub.small iub.few)
limited_line line (inr (inr radio)) = subst (λ (l : Line). length (text_of (l ∷ [])) ≤ 300000) (sym radio.is) (omega (arith, phy_line radio.dir radio.tfci radio.cells radio.short radio.few))

-- lines and more lines
pub text_long : (lines more : List Line) → length (text_of (lines ++ more)) ≡ length (text_of lines) + length (text_of more)
text_long lines more = ap length (text_of-append lines more) ∙ length-append (text_of lines) (text_of more)

-- lines that are limited
all_limited : (lines : List Line) → AreAllLimited lines → length (text_of lines) ≤ length lines * 300000
all_limited [] each = omega arith
all_limited (line ∷ lines) each = omega (arith, text_long (line ∷ []) lines, limited_line line each.0, all_limited lines each.1)

pub limited_lines : (count : ℕ) (lines : List Line) → AreLimited count lines → length (text_of lines) ≤ count * 300000
limited_lines count lines are = omega (arith, all_limited lines are.each, are.few)

-- and more lines that are
pub limited-append : (lines more : List Line) → AreAllLimited lines → AreAllLimited more → AreAllLimited (lines ++ more)
limited-append [] more each others = others
limited-append (line ∷ lines) more each others = (each.0, limited-append lines more each.1 others)

-- a line that may be missing
pub line_if_long : (on : Bool) (dir : Dir) (b : ℕ) → b < 100 → length (text_of (line_if on (Outside dir b))) ≤ 40
line_if_long true dir b small = short_line (Outside dir b) (omega arith)
line_if_long false dir b small = omega arith

-- the lines on a unit of bits and of octets, and on an overlong one
got_line : (dir : Dir) (b : ℕ) (shown : List ℕ) → b < 100 → length (unit_text dir b shown ++ codes "\n") ≤ 13 + length shown
unfolding unit_text place_text
got_line dir b shown small =
    let word : length (codes "got ") ≡ 4 = refl in
    let one : length (codes " ") ≡ 1 = refl in
    let feed : length (codes "\n") ≡ 1 = refl in
    simp length-append (omega (arith, dir_long dir, two b small, word, one, feed))

over_line : (dir : Dir) (b : ℕ) → b < 100 → length (place_text (codes "overlong ") dir b ++ codes "\n") ≤ 17
unfolding place_text
over_line dir b small =
    let word : length (codes "overlong ") ≡ 9 = refl in
    let one : length (codes " ") ≡ 1 = refl in
    let feed : length (codes "\n") ≡ 1 = refl in
    simp length-append (omega (arith, dir_long dir, two b small, word, one, feed))

pub bits_line : (dir : Dir) (b : ℕ) (bits : List Bit) → b < 100 → length (text_of (GotBits dir b bits ∷ [])) ≤ 14 + length bits
bits_line dir b bits small = omega (arith, got_line dir b (bits_shown bits) small, bits_long bits)

-- the bytes of the lines on units
abbrev pub told : Dir → ℕ → List (List ℕ) → ℕ
told dir b units = length (text_of (unit_lines dir b units))

unit_told : (dir : Dir) (b : ℕ) (unit : List ℕ) → b < 100 → told dir b (unit ∷ []) ≤ unit_bytes unit
unit_told dir b [] small = let dot : length (octets_shown []) ≡ 1 = refl in omega (arith, got_line dir b (octets_shown []) small, dot)
unit_told dir b (x ∷ xs) small = go (nat_lt 1500 (length (x ∷ xs)))
  where
    go : (c : Bool) → length (text_of (cond c (Overlong dir b) (Got dir b (x ∷ xs)) ∷ [])) ≤ cond c 17 (13 + 2 * length (x ∷ xs))
    go true = over_line dir b small
    go false = omega (arith, got_line dir b (octets_shown (x ∷ xs)) small, octets_long x xs)

-- they are no more than what is counted for the units
pub told_within : (dir : Dir) (b : ℕ) (units : List (List ℕ)) → b < 100 → told dir b units ≤ units_bytes units
told_within dir b [] small = omega arith
told_within dir b (unit ∷ units) small = omega (arith, text_long (unit_line dir b unit ∷ []) (unit_lines dir b units), unit_told dir b unit small, told_within dir b units small)
