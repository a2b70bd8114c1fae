-- A step whose user is a report. The report is the same whatever state the value is seen to stand for. So where lines that it was told
-- of leave room in it, the lines from each state have its text.
use Rattle.std.proofs.Common.{◌≡◌, ◌<◌, ◌≤◌, ◌+◌, ◌++◌, ℕ, List, [], ◌∷◌, length, arith, refl, ap, length-append}
use Rattle.dch_indication.specs.Lines.{Line}
use Rattle.dch_indication.specs.Told.{Told}
use Rattle.dch_indication.proofs.Telling.{told-append, told_one}
use Rattle.dch_script.specs.Adding.{AddsLines, ShowsLine}
use Rattle.dch_script.specs.Held.{Held}
use Rattle.dch_script.specs.LineText.{text_of}
use Rattle.dch_script.proofs.Adding.{text_of-append, told_adds, told_fixed, told_puts}
use Rattle.dch_steptext.specs.Reports.{HasRoomFor, TellsFew}

-- whatever a report was told of has the text by which it went on
pub few_adds : (bytes : ℕ) (before after : Held) → HasRoomFor before bytes → TellsFew ShowsLine bytes before after → (lines : List Line) → Told ShowsLine before lines after → AddsLines before.text after.text lines
few_adds bytes before after room is lines told = told_fixed before after is.lines lines is.told (omega (arith, room, is.few)) told

-- it went on by no more than so many bytes, and has as much room as before
pub few_more : (bytes : ℕ) (before after : Held) → HasRoomFor before bytes → TellsFew ShowsLine bytes before after → length after.text ≤ length before.text + bytes
few_more bytes before after room is =
    omega (arith, is.few, ap length (told_adds before after is.lines is.told (omega (arith, room, is.few))), length-append before.text (text_of is.lines))

pub few_most : (bytes : ℕ) (before after : Held) → HasRoomFor before bytes → TellsFew ShowsLine bytes before after → after.most ≡ before.most
few_most bytes before after room is = (told_puts before after is.lines (omega (arith, room)) is.told).most

-- a user that is told of nothing, of a line, or of lines and then of more
pub few_none : {U : Type 0} (shows : U → Line → U → Type 0) (bytes : ℕ) (user : U) → 0 < bytes → TellsFew shows bytes user user
few_none shows bytes user some = record { lines = []; told = refl; few = omega (arith, some) }

pub few_one : {U : Type 0} (shows : U → Line → U → Type 0) (bytes : ℕ) (old new : U) (line : Line) → shows old line new → length (text_of (line ∷ [])) < bytes → TellsFew shows bytes old new
few_one shows bytes old new line shown few = record { lines = line ∷ []; told = told_one shows old new line shown; few = few }

pub few_then : {U : Type 0} (shows : U → Line → U → Type 0) (front back bytes : ℕ) (old mid new : U) → front + back ≤ bytes + 1 → TellsFew shows front old mid → TellsFew shows back mid new → TellsFew shows bytes old new
few_then shows front back bytes old mid new all first then = record {
  lines = first.lines ++ then.lines;
  told = told-append shows old mid new first.lines then.lines first.told then.told;
  few = omega (arith, all, first.few, then.few, ap length (text_of-append first.lines then.lines), length-append (text_of first.lines) (text_of then.lines));
}

pub few_less : {U : Type 0} (shows : U → Line → U → Type 0) (bytes most : ℕ) (old new : U) → bytes ≤ most → TellsFew shows bytes old new → TellsFew shows most old new
few_less shows bytes most old new less is = record { lines = is.lines; told = is.told; few = omega (arith, less, is.few) }
