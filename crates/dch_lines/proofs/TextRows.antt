-- The rows of a text are those of its lines, since their words have no line feed.
use Rattle.std.proofs.Common.{◌≡◌, ◌<◌, ◌+◌, ◌/◌, ◌%◌, ℕ, zero, suc, List, [], ◌∷◌, ◌++◌, Bool, true, false, map, arith, refl, ap, ◌∙◌, append_assoc, inl, inr}
use Rattle.std.specs.Prelude.{◌==◌, ◌&&◌, not, codes, decimal, nat_lt, slice_index}
use Rattle.std.proofs.lemmas.Bool.{cond_both}
use Rattle.std.proofs.lemmas.Bool.Decides.{eqb_tells}
use Rattle.std.specs.Fmt.{digit_glyph, digits, digits_onto}
use Rattle.hex.specs.Hex.{encode_with, lower_digits}
use Rattle.dch_bits.specs.declared.bit.Bit.{Bit}
use Rattle.dch_bits.specs.declared.bit.Bit.TheVariants.{Zero, One}
use Rattle.dch_bits.specs.declared.bit.Trit.{Trit}
use Rattle.dch_bits.specs.declared.bit.Trit.TheVariants.{Zero as ZeroCell, One as OneCell, Off}
use Rattle.dch_bits.specs.Text.{cell_letter, letter_of}
use Rattle.dch_types.specs.declared.channel.Dir.{Dir}
use Rattle.dch_types.specs.declared.channel.Dir.TheVariants.{Up, Down}
use Rattle.dch_script.specs.Lines.{lines_after, lines_of as rows, rest_after, rest_of}
use Rattle.dch_script.specs.Report.{bits_shown, cells_shown, dir_word, iub_text, octets_shown, pair_text, phy_text, place_text, unit_text}
use Rattle.dch_indication.specs.Lines.{Line, Took, Full, Wrong, Bad, Reserved, NoBearer, Nobody, PduBad, Outside, Overlong, Got, GotBits, Iub, IubBad, Phy, PhyNone, BadTti, Differs}
use Rattle.dch_script.specs.LineText.{text_of, words_of}
use Rattle.dch_lines.specs.TextRows.{row_of, rows_of}

-- a text lacks a letter
abbrev pub Lacks : ℕ → List ℕ → Type 0
Lacks k [] = Unit {0}
Lacks k (c ∷ cs) = ((c == k) ≡ false) × Lacks k cs

pub lacks_append : (k : ℕ) (xs ys : List ℕ) → Lacks k xs → Lacks k ys → Lacks k (xs ++ ys)
lacks_append k [] ys h g = g
lacks_append k (x ∷ xs) ys h g = (h.0, lacks_append k xs ys h.1 g)

abbrev all_lack : ℕ → List ℕ → Bool
all_lack k [] = true
all_lack k (c ∷ cs) = not (c == k) && all_lack k cs

pub checked : (k : ℕ) (xs : List ℕ) → all_lack k xs ≡ true → Lacks k xs
checked k [] e = tt
checked k (c ∷ cs) e = let both = split (c == k) (all_lack k cs) e in (both.0, checked k cs both.1)
  where
    split : (a b : Bool) → (not a && b) ≡ true → (a ≡ false) × (b ≡ true)
    split true b e = absurd (cc)
    split false b e = (refl, e)

-- numbers in decimal lack all letters below the digits
other_number : (n k : ℕ) → k < n → (n == k) ≡ false
other_number n k less = elim (eqb_tells n k) [ inl same ↦ absurd (omega (arith, less, same.1)) | inr other ↦ other.0 ]

glyph_lacks : (k d : ℕ) → k < 48 → (digit_glyph false d == k) ≡ false
glyph_lacks k d small = cond_both {A = ℕ} (nat_lt d 10) (48 + d) (87 + d) (λ x. (x == k) ≡ false) (λ _. other_number (48 + d) k (omega (arith, small))) (λ _. other_number (87 + d) k (omega (arith, small)))

onto_lacks : (k m n : ℕ) (acc : List ℕ) → k < 48 → Lacks k acc → Lacks k (digits_onto m 10 false n acc)
onto_lacks k zero n acc small h = h
onto_lacks k (suc m) n acc small h = cond_both {A = List ℕ} (n / 10 == 0) (digit_glyph false (n % 10) ∷ acc) (digits_onto m 10 false (n / 10) (digit_glyph false (n % 10) ∷ acc)) (Lacks k) (λ _. (glyph_lacks k (n % 10) small, h)) (λ _. onto_lacks k m (n / 10) (digit_glyph false (n % 10) ∷ acc) small (glyph_lacks k (n % 10) small, h))

pub decimal_lacks : (k n : ℕ) → k < 48 → Lacks k (decimal n)
unfolding digits
decimal_lacks k n small = onto_lacks k 64 n [] small tt

-- what is shown
index_lacks : (t : List ℕ) (i : ℕ) → Lacks 10 t → (slice_index t i == 10) ≡ false
index_lacks [] i h = refl
index_lacks (c ∷ t) zero h = h.0
index_lacks (c ∷ t) (suc i) h = index_lacks t i h.1

hex_lacks : (t xs : List ℕ) → Lacks 10 t → Lacks 10 (encode_with t xs)
unfolding encode_with
hex_lacks t [] h = tt
hex_lacks t (x ∷ xs) h = (index_lacks t (x / 16) h, (index_lacks t (x % 16) h, hex_lacks t xs h))

octets_lack : (xs : List ℕ) → Lacks 10 (octets_shown xs)
octets_lack [] = (refl, tt)
octets_lack (x ∷ xs) = hex_lacks lower_digits (x ∷ xs) (checked 10 lower_digits refl)

bits_lack : (xs : List Bit) → Lacks 10 (bits_shown xs)
bits_lack [] = (refl, tt)
bits_lack (x ∷ xs) = all (x ∷ xs)
  where
    letter : (x : Bit) → (letter_of x == 10) ≡ false
    letter Zero = refl
    letter One = refl

    all : (xs : List Bit) → Lacks 10 (map letter_of xs)
    all [] = tt
    all (x ∷ xs) = (letter x, all xs)

cells_lack : (xs : List Trit) → Lacks 10 (cells_shown xs)
cells_lack [] = (refl, tt)
cells_lack (x ∷ xs) = all (x ∷ xs)
  where
    letter : (x : Trit) → (cell_letter x == 10) ≡ false
    letter ZeroCell = refl
    letter OneCell = refl
    letter Off = refl

    all : (xs : List Trit) → Lacks 10 (map cell_letter xs)
    all [] = tt
    all (x ∷ xs) = (letter x, all xs)

dir_lacks : (dir : Dir) → Lacks 10 (dir_word dir)
dir_lacks Up = checked 10 (codes "up") refl
dir_lacks Down = checked 10 (codes "down") refl

space : Lacks 10 (codes " ")
space = checked 10 (codes " ") refl

number_lacks : (n : ℕ) → Lacks 10 (decimal n)
number_lacks n = decimal_lacks 10 n (omega arith)

place_lacks : (word : List ℕ) (dir : Dir) (n : ℕ) → Lacks 10 word → Lacks 10 (place_text word dir n)
unfolding place_text
place_lacks word dir n h = lacks_append 10 (word ++ dir_word dir ++ codes " ") (decimal n) (lacks_append 10 (word ++ dir_word dir) (codes " ") (lacks_append 10 word (dir_word dir) h (dir_lacks dir)) space) (number_lacks n)

pair_lacks : (word : List ℕ) (dir : Dir) (n more : ℕ) → Lacks 10 word → Lacks 10 (pair_text word dir n more)
unfolding pair_text
pair_lacks word dir n more h = lacks_append 10 (place_text word dir n ++ codes " ") (decimal more) (lacks_append 10 (place_text word dir n) (codes " ") (place_lacks word dir n h) space) (number_lacks more)

unit_lacks : (dir : Dir) (b : ℕ) (u : List ℕ) → Lacks 10 u → Lacks 10 (unit_text dir b u)
unfolding unit_text
unit_lacks dir b u h = lacks_append 10 (place_text (codes "got ") dir b ++ codes " ") u (lacks_append 10 (place_text (codes "got ") dir b) (codes " ") (place_lacks (codes "got ") dir b (checked 10 (codes "got ") refl)) space) h

iub_lacks : (dir : Dir) (set : ℕ) (octets : List ℕ) → Lacks 10 (iub_text dir set octets)
unfolding iub_text
iub_lacks dir set octets = lacks_append 10 (codes "iub" ++ dir_word dir ++ codes " " ++ decimal set ++ codes " ") (octets_shown octets) (lacks_append 10 (codes "iub" ++ dir_word dir ++ codes " " ++ decimal set) (codes " ") (lacks_append 10 (codes "iub" ++ dir_word dir ++ codes " ") (decimal set) (lacks_append 10 (codes "iub" ++ dir_word dir) (codes " ") (lacks_append 10 (codes "iub") (dir_word dir) (checked 10 (codes "iub") refl) (dir_lacks dir)) space) (number_lacks set)) space) (octets_lack octets)

phy_lacks : (dir : Dir) (tfci : List Bit) (cells : List Trit) → Lacks 10 (phy_text dir tfci cells)
unfolding phy_text
phy_lacks dir tfci cells = lacks_append 10 (codes "phy" ++ dir_word dir ++ codes " " ++ bits_shown tfci ++ codes " ") (cells_shown cells) (lacks_append 10 (codes "phy" ++ dir_word dir ++ codes " " ++ bits_shown tfci) (codes " ") (lacks_append 10 (codes "phy" ++ dir_word dir ++ codes " ") (bits_shown tfci) (lacks_append 10 (codes "phy" ++ dir_word dir) (codes " ") (lacks_append 10 (codes "phy") (dir_word dir) (checked 10 (codes "phy") refl) (dir_lacks dir)) space) (bits_lack tfci)) space) (cells_lack cells)

words_lack : (x : Line) → Lacks 10 (words_of x)
words_lack (Took d c) = place_lacks (codes "took ") d c (checked 10 (codes "took ") refl)
words_lack (Full d c) = place_lacks (codes "full ") d c (checked 10 (codes "full ") refl)
words_lack (Wrong d c) = place_lacks (codes "wrong ") d c (checked 10 (codes "wrong ") refl)
words_lack (Bad d i k) = pair_lacks (codes "bad ") d i k (checked 10 (codes "bad ") refl)
words_lack (Reserved d i) = place_lacks (codes "reserved ") d i (checked 10 (codes "reserved ") refl)
words_lack (NoBearer d i ct) = pair_lacks (codes "nobearer ") d i ct (checked 10 (codes "nobearer ") refl)
words_lack (Nobody d i) = place_lacks (codes "nobody ") d i (checked 10 (codes "nobody ") refl)
words_lack (PduBad d c n) = pair_lacks (codes "pdubad ") d c n (checked 10 (codes "pdubad ") refl)
words_lack (Outside d c) = place_lacks (codes "outside ") d c (checked 10 (codes "outside ") refl)
words_lack (Overlong d c) = place_lacks (codes "overlong ") d c (checked 10 (codes "overlong ") refl)
words_lack (IubBad d set n) = pair_lacks (codes "iubbad ") d set n (checked 10 (codes "iubbad ") refl)
words_lack (BadTti d i n) = pair_lacks (codes "badtti ") d i n (checked 10 (codes "badtti ") refl)
words_lack (Differs d i) = place_lacks (codes "false ") d i (checked 10 (codes "false ") refl)
words_lack (Got d c octets) = unit_lacks d c (octets_shown octets) (octets_lack octets)
words_lack (GotBits d c bits) = unit_lacks d c (bits_shown bits) (bits_lack bits)
words_lack (Iub d set octets) = iub_lacks d set octets
words_lack (Phy d tfci cells) = phy_lacks d tfci cells
words_lack PhyNone = checked 10 (codes "phydown none") refl

-- a row ends at its line feed
one_row : (begun words rest : List ℕ) → Lacks 10 words → (lines_after begun (words ++ (10 ∷ rest)) ≡ (begun ++ (words ++ 10 ∷ [])) ∷ rows rest) × (rest_after begun (words ++ (10 ∷ rest)) ≡ rest_of rest)
one_row begun [] rest h = (refl, refl)
one_row begun (c ∷ words) rest h =
    let later = one_row (begun ++ c ∷ []) words rest h.1 in
    rw h.0 (later.0 ∙ ap (λ l. l ∷ rows rest) (append_assoc begun (c ∷ []) (words ++ 10 ∷ [])), later.1)

-- all rows of a text
pub text_rows : (lines : List Line) → (rows (text_of lines) ≡ rows_of lines) × (rest_of (text_of lines) ≡ [])
text_rows [] = (refl, refl)
text_rows (x ∷ lines) =
    let here = one_row [] (words_of x) (text_of lines) (words_lack x) in
    let later = text_rows lines in
    let split : text_of (x ∷ lines) ≡ words_of x ++ (10 ∷ text_of lines) = refl in
    (ap rows split ∙ here.0 ∙ ap (λ l. row_of x ∷ l) later.0, ap rest_of split ∙ here.1 ∙ later.1)
