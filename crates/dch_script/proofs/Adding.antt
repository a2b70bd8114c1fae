-- Lines that are added to a report.
use Rattle.std.proofs.Common.{◌≡◌, ◌<◌, ◌≤◌, ◌+◌, ◌++◌, ◌∙◌, List, [], ◌∷◌, length, take, arith, refl, sym, ap, subst, append-nil, append_assoc, length-append}
use Rattle.std.specs.Prelude.{codes}
use Rattle.std.proofs.lemmas.List.{take_all}
use Rattle.dch_indication.specs.Lines.{Line}
use Rattle.dch_indication.specs.Told.{Told}
use Rattle.dch_script.specs.Adding.{AddsLines, ShowsLine}
use Rattle.dch_script.specs.Held.{Held}
use Rattle.dch_script.specs.LineText.{text_of, words_of}
use Rattle.dch_script.specs.Putting.{Puts}
use Rattle.dch_script.proofs.Putting.{put_all, put_fits, put_short, puts_next}

-- the text of a line and of more lines
pub text_of-cons : (line : Line) (lines : List Line) → text_of (line ∷ lines) ≡ text_of (line ∷ []) ++ text_of lines
text_of-cons line lines = sym (append_assoc (words_of line) (codes "\n") (text_of lines))

-- the text of lines, and of more
pub text_of-append : (lines more : List Line) → text_of (lines ++ more) ≡ text_of lines ++ text_of more
text_of-append [] more = refl
text_of-append (line ∷ lines) more =
    ap (λ t. words_of line ++ (codes "\n" ++ t)) (text_of-append lines more) ∙ sym (append_assoc (words_of line) (codes "\n" ++ text_of lines) (text_of more))

-- a report that is told of lines holds their text, as far as there is room
pub told_puts : (old new : Held) (lines : List Line) → length old.text ≤ old.most → Told ShowsLine old lines new → Puts old (text_of lines) new
told_puts old new [] fits told = record {
  most = ap (λ (h : Held). h.most) told;
  cut = ap (λ (h : Held). h.text) told ∙ sym (ap (λ t. take old.most t) (append-nil old.text) ∙ take_all old.most old.text fits);
}
told_puts old new (line ∷ lines) fits told =
    let first : Puts old (text_of (line ∷ [])) told.0 = told.1.0 in
    let all : Puts old (text_of (line ∷ []) ++ text_of lines) new = puts_next first (told_puts told.0 new lines (put_fits old told.0 (text_of (line ∷ [])) first) told.1.1) in
    subst (λ t. Puts old t new) (sym (text_of-cons line lines)) all

-- all of it, where there is room
pub told_adds : (old new : Held) (lines : List Line) → Told ShowsLine old lines new → length old.text + length (text_of lines) ≤ old.most → AddsLines old.text new.text lines
told_adds old new lines told room = ap (λ (h : Held). h.text) (put_all (told_puts old new lines (omega (arith, room)) told) room)

-- lines that leave room fix the text of all lines that a report can have been told of
pub told_fixed : (old new : Held) (few lines : List Line) → Told ShowsLine old few new → length old.text + length (text_of few) < old.most → Told ShowsLine old lines new → AddsLines old.text new.text lines
told_fixed old new few lines told room other =
    let own : new.text ≡ old.text ++ text_of few = told_adds old new few told (omega (arith, room)) in
    let short : length new.text < old.most = omega (arith, room, ap length own, length-append old.text (text_of few)) in
    put_short old new (text_of lines) (told_puts old new lines (omega (arith, room)) other) short
