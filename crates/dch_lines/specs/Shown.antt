-- The text of a report without the lines of frames.
use Rattle.std.specs.Prelude.{◌||◌, ℕ, List, [], ◌∷◌, ◌++◌, Bool, true, false, codes, if◌then◌else◌}
use Rattle.std.specs.Str.{bytes_eq}
use Rattle.dch_script.specs.Code.{content}
use Rattle.dch_script.specs.Lines.{lines_of}
use Rattle.dch_script.specs.LineWords.{words_of}

abbrev pub first_of : List (List ℕ) → List ℕ
first_of [] = []
first_of (word ∷ words) = word

-- the first word of a line that shows a frame: an Iub frame or a radio frame, of either direction
unfoldable pub is_frame_word : List ℕ → Bool
is_frame_word word =
    bytes_eq word (codes "iubdown") || (bytes_eq word (codes "phydown") || (bytes_eq word (codes "phyup") || bytes_eq word (codes "iubup")))

-- a line shows a frame
unfoldable pub is_frame_line : List ℕ → Bool
is_frame_line line = is_frame_word (first_of (words_of (content line)))

-- the lines that show no frame, one after another
abbrev pub other_lines : List (List ℕ) → List ℕ
other_lines [] = []
other_lines (line ∷ lines) = (if is_frame_line line then [] else line) ++ other_lines lines

-- what is shown of a text of whole lines: with quiet only the lines that show no frame, and else all
abbrev pub shown : Bool → List ℕ → List ℕ
shown true text = other_lines (lines_of text)
shown false text = text
