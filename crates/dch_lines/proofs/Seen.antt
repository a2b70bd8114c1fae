-- What is shown of the text of lines is the text of the lines that are shown, each led where they are those of a leg.
use Rattle.std.proofs.Common.{◌≡◌, ◌≤◌, ◌+◌, ◌-◌, ◌*◌, ◌∙◌, ◌++◌, ℕ, zero, suc, List, [], ◌∷◌, Bool, true, false, None, Some, length, slice_index, nat_lt, take, arith, refl, ap, sym, append-nil, append_assoc, length-append}
use Rattle.std.specs.Prelude.{◌<◌, Option, IfSome, codes, decimal, if◌then◌else◌}
use Rattle.std.proofs.lemmas.Bool.{lt-ltb}
use Rattle.std.proofs.lemmas.Fmt.{decimal_digit}
use Rattle.dch_types.specs.declared.channel.Dir.TheVariants.{Up, Down}
use Rattle.dch_script.specs.Code.{content}
use Rattle.dch_script.specs.LineText.{text_of, words_of}
use Rattle.dch_script.specs.LineWords.{words_of as words_in, words_from}
use Rattle.dch_script.specs.Report.{bits_shown, cells_shown, dir_word, iub_text, octets_shown, pair_text, phy_text, place_text, unit_text}
use Rattle.dch_script.proofs.Adding.{text_of-cons}
use Rattle.dch_indication.specs.Lines.{Line, Took, Full, Wrong, Bad, Reserved, NoBearer, Nobody, PduBad, Outside, Overlong, Got, GotBits, Iub, IubBad, Phy, PhyNone, BadTti, Differs}
use Rattle.dch_lines.specs.Shown.{first_of, is_frame_line, is_frame_word, other_lines, shown}
use Rattle.dch_lines.specs.Filtering.{is_frame, led_text, seen, without_frames}
use Rattle.dch_lines.specs.Led.{lead, lead_of, led, led_lines}
use Rattle.dch_lines.specs.TextRows.{row_of, rows_of}
use Rattle.dch_lines.proofs.TextRows.{Lacks, checked, text_rows}

-- a row without its line feed
take_front : (text : List ℕ) (n : ℕ) → n ≡ length text → take n (text ++ codes "\n") ≡ text
take_front [] zero e = refl
take_front [] (suc n) e = absurd (omega (arith, e))
take_front (c ∷ text) zero e = absurd (omega (arith, e))
take_front (c ∷ text) (suc n) e = ap (λ t. c ∷ t) (take_front text n (omega (arith, e)))

last_feed : (text : List ℕ) (n : ℕ) → n ≡ length text → slice_index (text ++ codes "\n") n ≡ 10
last_feed [] zero e = refl
last_feed [] (suc n) e = absurd (omega (arith, e))
last_feed (c ∷ text) zero e = absurd (omega (arith, e))
last_feed (c ∷ text) (suc n) e = last_feed text n (omega (arith, e))

row_content : (text : List ℕ) → content (text ++ codes "\n") ≡ text
row_content text =
    let long : length (text ++ codes "\n") ≡ length text + 1 = length-append text (codes "\n") in
    let some : nat_lt 0 (length (text ++ codes "\n")) ≡ true = lt-ltb 0 (length (text ++ codes "\n")) (omega (arith, long)) in
    let at : length (text ++ codes "\n") - 1 ≡ length text = omega (arith, long) in
    rw (some, last_feed text (length (text ++ codes "\n") - 1) at) (take_front text (length (text ++ codes "\n") - 1) at)

-- its first word
first_word : (front word rest : List ℕ) → Lacks 32 word → first_of (words_from front (word ++ 32 ∷ rest)) ≡ front ++ word
first_word front [] rest lacks = sym (append-nil front)
first_word front (c ∷ word) rest lacks = rw lacks.0 (first_word (front ++ c ∷ []) word rest lacks.1 ∙ append_assoc front (c ∷ []) word)

by_word : (word rest : List ℕ) → Lacks 32 word → is_frame_line ((word ++ 32 ∷ rest) ++ codes "\n") ≡ is_frame_word word
unfolding is_frame_line
by_word word rest lacks = ap (λ t. is_frame_word (first_of (words_in t))) (row_content (word ++ 32 ∷ rest)) ∙ ap is_frame_word (first_word [] word rest lacks)

-- tells whether it shows a frame
row_shows : (line : Line) → is_frame_line (row_of line) ≡ is_frame line
unfolding is_frame_word place_text pair_text iub_text phy_text unit_text
row_shows (Took dir b) = by_word (codes "took") (dir_word dir ++ codes " " ++ decimal b) (checked 32 (codes "took") refl)
row_shows (Full dir b) = by_word (codes "full") (dir_word dir ++ codes " " ++ decimal b) (checked 32 (codes "full") refl)
row_shows (Wrong dir b) = by_word (codes "wrong") (dir_word dir ++ codes " " ++ decimal b) (checked 32 (codes "wrong") refl)
row_shows (Bad dir i n) = by_word (codes "bad") (dir_word dir ++ codes " " ++ decimal i ++ codes " " ++ decimal n) (checked 32 (codes "bad") refl)
row_shows (Reserved dir i) = by_word (codes "reserved") (dir_word dir ++ codes " " ++ decimal i) (checked 32 (codes "reserved") refl)
row_shows (NoBearer dir i n) = by_word (codes "nobearer") (dir_word dir ++ codes " " ++ decimal i ++ codes " " ++ decimal n) (checked 32 (codes "nobearer") refl)
row_shows (Nobody dir i) = by_word (codes "nobody") (dir_word dir ++ codes " " ++ decimal i) (checked 32 (codes "nobody") refl)
row_shows (PduBad dir b n) = by_word (codes "pdubad") (dir_word dir ++ codes " " ++ decimal b ++ codes " " ++ decimal n) (checked 32 (codes "pdubad") refl)
row_shows (Outside dir b) = by_word (codes "outside") (dir_word dir ++ codes " " ++ decimal b) (checked 32 (codes "outside") refl)
row_shows (Overlong dir b) = by_word (codes "overlong") (dir_word dir ++ codes " " ++ decimal b) (checked 32 (codes "overlong") refl)
row_shows (Got dir b octets) = by_word (codes "got") (dir_word dir ++ codes " " ++ decimal b ++ codes " " ++ octets_shown octets) (checked 32 (codes "got") refl)
row_shows (GotBits dir b bits) = by_word (codes "got") (dir_word dir ++ codes " " ++ decimal b ++ codes " " ++ bits_shown bits) (checked 32 (codes "got") refl)
row_shows (Iub Up set octets) = by_word (codes "iubup") (decimal set ++ codes " " ++ octets_shown octets) (checked 32 (codes "iubup") refl)
row_shows (Iub Down set octets) = by_word (codes "iubdown") (decimal set ++ codes " " ++ octets_shown octets) (checked 32 (codes "iubdown") refl)
row_shows (IubBad dir set n) = by_word (codes "iubbad") (dir_word dir ++ codes " " ++ decimal set ++ codes " " ++ decimal n) (checked 32 (codes "iubbad") refl)
row_shows (Phy Up tfci cells) = by_word (codes "phyup") (bits_shown tfci ++ codes " " ++ cells_shown cells) (checked 32 (codes "phyup") refl)
row_shows (Phy Down tfci cells) = by_word (codes "phydown") (bits_shown tfci ++ codes " " ++ cells_shown cells) (checked 32 (codes "phydown") refl)
row_shows PhyNone = by_word (codes "phydown") (codes "none") (checked 32 (codes "phydown") refl)
row_shows (BadTti dir i n) = by_word (codes "badtti") (dir_word dir ++ codes " " ++ decimal i ++ codes " " ++ decimal n) (checked 32 (codes "badtti") refl)
row_shows (Differs dir i) = by_word (codes "false") (dir_word dir ++ codes " " ++ decimal i) (checked 32 (codes "false") refl)

-- what is shown of the text of lines
other_rows : (lines : List Line) → other_lines (rows_of lines) ≡ text_of (without_frames lines)
other_rows [] = refl
other_rows (line ∷ lines) = rw (row_shows line) (of (is_frame line) (other_rows lines))
  where
    of : (frame : Bool) → other_lines (rows_of lines) ≡ text_of (without_frames lines) → (if frame then [] else row_of line) ++ other_lines (rows_of lines) ≡ text_of (if frame then without_frames lines else (line ∷ without_frames lines))
    of true rest = rest
    of false rest = ap (λ t. row_of line ++ t) rest ∙ sym (text_of-cons line (without_frames lines))

pub shown_text : (quiet : Bool) (lines : List Line) → shown quiet (text_of lines) ≡ text_of (seen quiet lines)
shown_text true lines = ap other_lines (text_rows lines).0 ∙ other_rows lines
shown_text false lines = refl

-- and of it where the lines are led
plain_text : (lines : List Line) → led_text [] lines ≡ text_of lines
plain_text [] = refl
plain_text (line ∷ lines) = ap (λ t. text_of (line ∷ []) ++ t) (plain_text lines) ∙ sym (text_of-cons line lines)

led_rows : (k : ℕ) (lines : List Line) → led_lines k (rows_of lines) ≡ led_text (lead k) lines
led_rows k [] = refl
led_rows k (line ∷ lines) = ap (λ t. (lead k ++ row_of line) ++ t) (led_rows k lines)

pub led_is : (leg : Option ℕ) (quiet : Bool) (lines : List Line) → led leg (shown quiet (text_of lines)) ≡ led_text (lead_of leg) (seen quiet lines)
led_is None quiet lines = shown_text quiet lines ∙ sym (plain_text (seen quiet lines))
led_is (Some k) quiet lines = ap (led (Some k)) (shown_text quiet lines) ∙ ap (led_lines k) (text_rows (seen quiet lines)).0 ∙ led_rows k (seen quiet lines)

-- the words that lead a line, letter by letter
pub lead_is : (leg : Option ℕ) (k : ℕ) → leg ≡ Some k → k < 6 → 108 ∷ 101 ∷ 103 ∷ 32 ∷ (48 + k) ∷ 32 ∷ [] ≡ lead_of leg
unfolding lead
lead_is leg k is small = ap (λ t. codes "leg " ++ (t ++ codes " ")) (sym (decimal_digit k (omega (arith, small)))) ∙ ap lead_of (sym is)
