-- What is shown of two texts of whole lines.
use Rattle.std.proofs.Common.{◌≡◌, ◌∙◌, ◌++◌, ℕ, List, [], ◌∷◌, Bool, true, false, refl, ap, sym, append_assoc}
use Rattle.std.specs.Prelude.{codes, if◌then◌else◌}
use Rattle.dch_script.specs.Lines.{lines_after, lines_of, rest_after, rest_of}
use Rattle.dch_script.proofs.Lines.{lines_after-append, rest_after-append}
use Rattle.dch_node.specs.Lines.{Line}
use Rattle.dch_script.specs.LineText.{text_of, words_of}
use Rattle.dch_script.proofs.Adding.{text_of-append}
use Rattle.dch_lines.specs.Shown.{is_frame_line, other_lines, shown}

-- the text of lines ends with a line feed
pub whole_text : (lines : List Line) → rest_of (text_of lines) ≡ []
whole_text [] = refl
whole_text (line ∷ lines) =
    rest_after-append [] (words_of line) (codes "\n" ++ text_of lines) ∙ rest_after-append (rest_after [] (words_of line)) (codes "\n") (text_of lines) ∙ whole_text lines

other_lines-append : (xs ys : List (List ℕ)) → other_lines (xs ++ ys) ≡ other_lines xs ++ other_lines ys
other_lines-append [] ys = refl
other_lines-append (x ∷ xs) ys =
    ap (λ (t : List ℕ). (if is_frame_line x then [] else x) ++ t) (other_lines-append xs ys) ∙ sym (append_assoc (if is_frame_line x then [] else x) (other_lines xs) (other_lines ys))

pub shown-append : (quiet : Bool) (lines more : List Line) → shown quiet (text_of (lines ++ more)) ≡ shown quiet (text_of lines) ++ shown quiet (text_of more)
shown-append true lines more =
    ap (λ (t : List ℕ). other_lines (lines_of t)) (text_of-append lines more)
    ∙ ap other_lines (lines_after-append [] (text_of lines) (text_of more) ∙ ap (λ (begun : List ℕ). lines_of (text_of lines) ++ lines_after begun (text_of more)) (whole_text lines))
    ∙ other_lines-append (lines_of (text_of lines)) (lines_of (text_of more))
shown-append false lines more = text_of-append lines more

pub shown-none : (quiet : Bool) → shown quiet (text_of []) ≡ []
shown-none true = refl
shown-none false = refl
