-- The counts go on, line by line.
use Rattle.std.proofs.Common.{◌≡◌, ◌≤◌, ◌+◌, ◌++◌, ◌∙◌, ℕ, List, [], ◌∷◌, Bool, true, false, length, arith, ap, sym, subst, append-nil, append_assoc, length-append}
use Rattle.std.specs.Prelude.{codes, count_by, if◌then◌else◌}
use Rattle.std.proofs.lemmas.List.Sums.{count_by-le-length, sum_by_push}
use Rattle.std.proofs.lemmas.List.{length-map}
use Rattle.dch_bits.specs.declared.bit.Bit.{Bit}
use Rattle.dch_bits.specs.declared.bit.Trit.{Trit}
use Rattle.dch_bits.specs.Text.{cell_letter}
use Rattle.dch_types.specs.declared.channel.Dir.{Dir}
use Rattle.dch_types.specs.declared.channel.Dir.TheVariants.{Up, Down}
use Rattle.dch_indication.specs.Lines.{Line, Took, Full, Wrong, Bad, Reserved, NoBearer, Nobody, PduBad, Outside, Overlong, Got, GotBits, Iub, IubBad, Phy, PhyNone, BadTti, Differs}
use Rattle.dch_indication.specs.Told.{Told}
use Rattle.dch_script.specs.LineText.{text_of, words_of}
use Rattle.dch_script.specs.Report.{bits_shown, cells_shown, dir_word, phy_text}
use Rattle.dch_script.proofs.Adding.{text_of-cons}
use Rattle.dch_link.specs.SteptextReports.{TellsFew}
use Rattle.dch_gen.specs.Counts.{cells_of, is_got, is_one, is_took, same_dir}
use Rattle.dch_gen.specs.Counting.{AreCountsOf, CountsBoth, CountsLine, HasDirRoom, HasRoom, IsCountOf, ShowsCounts, one_if}
use Rattle.dch_gen.specs.declared.counts.Counts.{Counts}
use Rattle.dch_gen.specs.declared.counts.DirCounts.{DirCounts}

-- the counts of a direction stand for one line more
dir_counted : (dir : Dir) (lines : List Line) (line : Line) (old new : DirCounts) → CountsLine dir line old new → IsCountOf dir lines old → IsCountOf dir (lines ++ line ∷ []) new
dir_counted dir lines line old new counts is = record {
  took = λ b small. counts.took b small ∙ ap (λ n. n + one_if (is_took dir b line)) (is.took b small) ∙ sym (sum_by_push (λ l. one_if (is_took dir b l)) lines line);
  got = λ b small. counts.got b small ∙ ap (λ n. n + one_if (is_got dir b line)) (is.got b small) ∙ sym (sum_by_push (λ l. one_if (is_got dir b l)) lines line);
  cells = counts.cells ∙ ap (λ n. n + length (cells_of dir line)) is.cells ∙ sym (sum_by_push (λ l. length (cells_of dir l)) lines line);
  ones = counts.ones ∙ ap (λ n. n + count_by is_one (cells_of dir line)) is.ones ∙ sym (sum_by_push (λ l. count_by is_one (cells_of dir l)) lines line);
}

one_small : (test : Bool) → one_if test ≤ 1
one_small true = omega arith
one_small false = omega arith

-- a line of text has a byte for each cell of which it tells, and one at least
pub line_some : (line : Line) → 1 ≤ length (text_of (line ∷ []))
line_some line = omega (arith, length-append (words_of line) (codes "\n"))

shown_long : (cells : List Trit) → length cells ≤ length (cells_shown cells)
shown_long [] = omega arith
shown_long (x ∷ cells) = omega (arith, length-map (x ∷ cells) cell_letter)

phy_long : (of : Dir) (tfci : List Bit) (cells : List Trit) → length cells ≤ length (text_of (Phy of tfci cells ∷ []))
unfolding phy_text
phy_long of tfci cells =
    let front : List ℕ = codes "phy" ++ dir_word of ++ codes " " ++ bits_shown tfci ++ codes " " in
    omega (arith, shown_long cells, length-append front (cells_shown cells), length-append (front ++ cells_shown cells) (codes "\n"))

pub cells_short : (dir : Dir) (line : Line) → length (cells_of dir line) ≤ length (text_of (line ∷ []))
cells_short dir (Phy of tfci cells) = elim (same_dir of dir) as (λ b. length (if b then cells else []) ≤ length (text_of (Phy of tfci cells ∷ []))) [ true ↦ phy_long of tfci cells | false ↦ omega arith ]
cells_short dir PhyNone = omega arith
cells_short dir (Took d b) = omega arith
cells_short dir (Full d b) = omega arith
cells_short dir (Wrong d b) = omega arith
cells_short dir (Bad d i k) = omega arith
cells_short dir (Reserved d i) = omega arith
cells_short dir (NoBearer d i c) = omega arith
cells_short dir (Nobody d i) = omega arith
cells_short dir (PduBad d b n) = omega arith
cells_short dir (Outside d b) = omega arith
cells_short dir (Overlong d b) = omega arith
cells_short dir (Got d b u) = omega arith
cells_short dir (GotBits d b u) = omega arith
cells_short dir (Iub d t u) = omega arith
cells_short dir (IubBad d t n) = omega arith
cells_short dir (BadTti d i n) = omega arith
cells_short dir (Differs d i) = omega arith

-- and its counts may still grow by what they could have grown by after this line
dir_room : (dir : Dir) (line : Line) (old new : DirCounts) (more : ℕ) → CountsLine dir line old new → HasDirRoom old (length (text_of (line ∷ [])) + more) → HasDirRoom new more
dir_room dir line old new more counts room =
    let some : 1 ≤ length (text_of (line ∷ [])) = line_some line in
    let cells : length (cells_of dir line) ≤ length (text_of (line ∷ [])) = cells_short dir line in
    record {
      took = λ b small. omega (arith, counts.took b small, one_small (is_took dir b line), room.took b small, some);
      got = λ b small. omega (arith, counts.got b small, one_small (is_got dir b line), room.got b small, some);
      cells = omega (arith, counts.cells, cells, room.cells);
      ones = omega (arith, counts.ones, count_by-le-length is_one (cells_of dir line), cells, room.ones);
    }

less_room : (counts : DirCounts) (more most : ℕ) → more ≤ most → HasDirRoom counts most → HasDirRoom counts more
less_room counts more most less room = record {
  took = λ b small. omega (arith, room.took b small, less);
  got = λ b small. omega (arith, room.got b small, less);
  cells = omega (arith, room.cells, less);
  ones = omega (arith, room.ones, less);
}

pub room_less : (counts : Counts) (more most : ℕ) → more ≤ most → HasRoom counts most → HasRoom counts more
room_less counts more most less room = record { up = less_room counts.up more most less room.up; down = less_room counts.down more most less room.down }

-- counts that are exact after lines were so before them, and stand for those lines more
pub told_exact : (old new : Counts) (lines : List Line) → Told ShowsCounts old lines new → new.is_exact ≡ true → old.is_exact ≡ true
told_exact old new [] told exact = ap (λ (c : Counts). c.is_exact) (sym told) ∙ exact
told_exact old new (line ∷ lines) told exact = (told.1.0.counts (told_exact told.0 new lines told.1.1 exact)).exact

pub told_counts : (old new : Counts) (lines before : List Line) → Told ShowsCounts old lines new → new.is_exact ≡ true → AreCountsOf before old → AreCountsOf (before ++ lines) new
told_counts old new [] before told exact was = subst (λ (l : List Line). AreCountsOf l new) (sym (append-nil before)) (subst (λ (c : Counts). AreCountsOf before c) (sym told) was)
told_counts old new (line ∷ lines) before told exact was =
    let mid : Counts = told.0 in
    let both : CountsBoth line old mid = told.1.0.counts (told_exact mid new lines told.1.1 exact) in
    let on : AreCountsOf (before ++ line ∷ []) mid = record { up = dir_counted Up before line old.up mid.up both.up was.up; down = dir_counted Down before line old.down mid.down both.down was.down } in
    subst (λ (l : List Line). AreCountsOf l new) (append_assoc before (line ∷ []) lines) (told_counts mid new lines (before ++ line ∷ []) told.1.1 exact on)

-- where each count may grow by as much as lines have bytes, they are exact after those lines, and may grow by the rest
pub record StaysExact (new : Counts) (more : ℕ) : Type 0 where
  pub exact : new.is_exact ≡ true
  pub room : HasRoom new more

pub told_room : (old new : Counts) (lines : List Line) (more : ℕ) → Told ShowsCounts old lines new → old.is_exact ≡ true → HasRoom old (length (text_of lines) + more) → StaysExact new more
told_room old new [] more told exact room = subst (λ (c : Counts). StaysExact c more) (sym told) (record { exact = exact; room = room_less old more (length (text_of []) + more) (omega arith) room })
told_room old new (line ∷ lines) more told exact room =
    let mid : Counts = told.0 in
    let own : ℕ = length (text_of (line ∷ [])) in
    let rest : ℕ = length (text_of lines) in
    let sum : length (text_of (line ∷ lines)) ≡ own + rest = ap length (text_of-cons line lines) ∙ length-append (text_of (line ∷ [])) (text_of lines) in
    let all : HasRoom old (own + (rest + more)) = room_less old (own + (rest + more)) (length (text_of (line ∷ lines)) + more) (omega (arith, sum)) room in
    let now : mid.is_exact ≡ true = told.1.0.exact exact (room_less old own (own + (rest + more)) (omega arith) all) in
    let both : CountsBoth line old mid = told.1.0.counts now in
    told_room mid new lines more told.1.1 now (record { up = dir_room Up line old.up mid.up (rest + more) both.up all.up; down = dir_room Down line old.down mid.down (rest + more) both.down all.down })

-- so counts that are told of few lines stay exact
pub few_room : (bytes more : ℕ) (old new : Counts) → TellsFew ShowsCounts bytes old new → old.is_exact ≡ true → HasRoom old (bytes + more) → StaysExact new more
few_room bytes more old new few exact room = told_room old new few.lines more few.told exact (room_less old (length (text_of few.lines) + more) (bytes + more) (omega (arith, few.few)) room)
