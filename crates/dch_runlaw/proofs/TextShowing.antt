-- Rows that hand up units, or tell of channels whose blocks differ, show no frame, so that they are always shown.
use Rattle.std.proofs.Common.{◌≡◌, ℕ, List, [], ◌∷◌, Bool, true, false, refl, ap, ◌∙◌}
use Rattle.dch_types.specs.declared.channel.Dir.{Dir}
use Rattle.dch_script.specs.Lines.{lines_of as rows, rest_of}
use Rattle.dch_script.specs.Report.{iub_text, pair_text, phy_text, place_text, unit_text}
use Rattle.dch_node.specs.Lines.{Line, Took, Full, Wrong, Bad, Reserved, NoBearer, Nobody, PduBad, Outside, Overlong, Got, GotBits, Iub, IubBad, Phy, PhyNone, BadTti, Differs}
use Rattle.dch_script.specs.LineText.{text_of}
use Rattle.dch_lines.specs.Shown.{shown}
use Rattle.dch_lines.specs.Filtering.{is_frame, seen}
use Rattle.dch_runlaw.specs.TextDiffering.{false_rows, false_words}
use Rattle.dch_runlaw.specs.Rows.{got_rows, got_words, row_of, rows_of, starts_with}
use Rattle.dch_lines.proofs.Seen.{shown_text}
use Rattle.dch_lines.proofs.TextRows.{text_rows}
use Rattle.dch_runlaw.proofs.Sublists.{either}

-- the row of a frame is none of these
not_got : (dir : Dir) (b : ℕ) (x : Line) → is_frame x ≡ true → starts_with (got_words dir b) (row_of x) ≡ false
unfolding place_text pair_text iub_text phy_text
not_got dir b (Got d c octets) e = absurd (cc)
not_got dir b (GotBits d c bits) e = absurd (cc)
not_got dir b (Iub d set octets) e = refl
not_got dir b (Phy d tfci cells) e = refl
not_got dir b PhyNone e = refl
not_got dir b (Took d c) e = refl
not_got dir b (Full d c) e = refl
not_got dir b (Wrong d c) e = refl
not_got dir b (Bad d i k) e = refl
not_got dir b (Reserved d i) e = refl
not_got dir b (NoBearer d i ct) e = refl
not_got dir b (Nobody d i) e = refl
not_got dir b (PduBad d c n) e = refl
not_got dir b (Outside d c) e = refl
not_got dir b (Overlong d c) e = refl
not_got dir b (IubBad d set n) e = refl
not_got dir b (BadTti d i n) e = refl
not_got dir b (Differs d i) e = refl

not_false : (dir : Dir) (i : ℕ) (x : Line) → is_frame x ≡ true → starts_with (false_words dir i) (row_of x) ≡ false
unfolding place_text pair_text iub_text phy_text unit_text
not_false dir i (Differs d j) e = absurd (cc)
not_false dir i (Got d c octets) e = refl
not_false dir i (GotBits d c bits) e = refl
not_false dir i (Iub d set octets) e = refl
not_false dir i (Phy d tfci cells) e = refl
not_false dir i PhyNone e = refl
not_false dir i (Took d c) e = refl
not_false dir i (Full d c) e = refl
not_false dir i (Wrong d c) e = refl
not_false dir i (Bad d j k) e = refl
not_false dir i (Reserved d j) e = refl
not_false dir i (NoBearer d j ct) e = refl
not_false dir i (Nobody d j) e = refl
not_false dir i (PduBad d c n) e = refl
not_false dir i (Outside d c) e = refl
not_false dir i (Overlong d c) e = refl
not_false dir i (IubBad d set n) e = refl
not_false dir i (BadTti d j n) e = refl

-- the rows of what is shown are those of the lines that are shown
pub shown_rows : (quiet : Bool) (lines : List Line) → (rows (shown quiet (text_of lines)) ≡ rows_of (seen quiet lines)) × (rest_of (shown quiet (text_of lines)) ≡ [])
shown_rows quiet lines =
    let all = text_rows (seen quiet lines) in
    (ap rows (shown_text quiet lines) ∙ all.0, ap rest_of (shown_text quiet lines) ∙ all.1)

pub seen_got : (quiet : Bool) (dir : Dir) (b : ℕ) (lines : List Line) → got_rows dir b (rows_of (seen quiet lines)) ≡ got_rows dir b (rows_of lines)
seen_got false dir b lines = refl
seen_got true dir b [] = refl
seen_got true dir b (x ∷ lines) = either (is_frame x)
    (λ e. rw (e, not_got dir b x e) (seen_got true dir b lines))
    (λ e. rw e (either (starts_with (got_words dir b) (row_of x))
    (λ f. rw f (ap (λ l. row_of x ∷ l) (seen_got true dir b lines)))
    (λ f. rw f (seen_got true dir b lines))))

pub seen_false : (quiet : Bool) (dir : Dir) (i : ℕ) (lines : List Line) → false_rows dir i (rows_of (seen quiet lines)) ≡ false_rows dir i (rows_of lines)
seen_false false dir i lines = refl
seen_false true dir i [] = refl
seen_false true dir i (x ∷ lines) = either (is_frame x)
    (λ e. rw (e, not_false dir i x e) (seen_false true dir i lines))
    (λ e. rw e (either (starts_with (false_words dir i) (row_of x))
    (λ f. rw f (ap (λ l. row_of x ∷ l) (seen_false true dir i lines)))
    (λ f. rw f (seen_false true dir i lines))))
