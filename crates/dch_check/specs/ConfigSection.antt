-- The configuration at the front of an input: all bytes before the first line `---`.
use Rattle.std.specs.Prelude.{ℕ, ◌==◌, List, [], ◌∷◌, ◌++◌, Bool, true, false, ◌||◌, codes, if◌then◌else◌}
use Rattle.std.specs.List.{list_any}
use Rattle.std.specs.Str.{bytes_eq}
use Rattle.dch_script.specs.Lines.{lines_after, rest_after, lines_of, rest_of}

-- the line `---`, which may lack its line feed at the end of the input
abbrev pub is_separator : List ℕ → Bool
is_separator line = bytes_eq line (codes "---\n") || bytes_eq line (codes "---")

-- the lines before the first such line, put together
abbrev pub section_of : List (List ℕ) → List ℕ
section_of [] = []
section_of (line ∷ lines) = if is_separator line then [] else line ++ section_of lines

abbrev pub has_separator : List (List ℕ) → Bool
has_separator lines = list_any is_separator lines

-- the line `---` is among the whole lines of some bytes
abbrev pub is_complete : List ℕ → Bool
is_complete bytes = has_separator (lines_of bytes)

-- the text of the configuration at the front of some bytes, where the line `---` is among them or the input ends with
-- them
abbrev pub configuration_of : List ℕ → List ℕ
configuration_of bytes = section_of (lines_of bytes ++ rest_of bytes ∷ [])

-- the bytes that follow the line `---`, where it ends in some bytes after the beginning of a line; none where it
-- doesn't
abbrev pub behind_separator : List ℕ → List ℕ → List ℕ
behind_separator begun [] = []
behind_separator begun (c ∷ bytes) = if c == 10 then (if is_separator (begun ++ c ∷ []) then bytes
    else behind_separator [] bytes) else behind_separator (begun ++ c ∷ []) bytes

-- what has come: the text of whole lines, the line that has begun, and whether the line `---` has come
pub record Gathered : Type 0 where
  pub text : List ℕ
  pub line : List ℕ
  pub complete : Bool

abbrev pub nothing : Gathered
nothing = record { text = []; line = []; complete = false }

-- what has come once the line that has begun has ended
abbrev pub with_line : Gathered → Gathered
with_line old = if is_separator old.line then record old { line = []; complete = true }
    else record old { text = old.text ++ old.line; line = [] }

-- what has come with these whole lines, and with the beginning of a line after them
abbrev pub with_lines : Gathered → List (List ℕ) → List ℕ → Gathered
with_lines old lines rest = record {
  text = old.text ++ section_of lines;
  line = if has_separator lines then []
      else rest;
  complete = has_separator lines;
}

-- what has come with these bytes; none counts after the line `---`
abbrev pub gathered : Gathered → List ℕ → Gathered
gathered old bytes = if old.complete then old else with_lines old (lines_after old.line bytes)
    (rest_after old.line bytes)

-- what follows the line `---`, which may have come before these bytes
abbrev pub behind : Gathered → List ℕ → List ℕ
behind old bytes = if old.complete then bytes else behind_separator old.line bytes

-- the text of the configuration, where the input ends here or the line `---` has come
abbrev pub settled : Gathered → List ℕ
settled section = section.text ++ section_of (section.line ∷ [])

-- what follows the line `---` in the bytes of an input
abbrev pub script_of : List ℕ → List ℕ
script_of bytes = behind_separator [] bytes
