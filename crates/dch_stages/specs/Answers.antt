-- The answers to the questions of a TTI that is loaded.
use Rattle.std.specs.Prelude.{◌*◌, ◌==◌, ℕ, zero, suc, List, [], ◌++◌, Bool, false, Option, Some, None, codes, decimal, if◌then◌else◌}
use Rattle.dch_types.specs.declared.channel.Dir.{Dir}
use Rattle.dch_types.specs.declared.channel.Format.{Format}
use Rattle.dch_types.specs.Parts.{channel_at, format_at, side_of}
use Rattle.dch_accept.specs.Plans.{Planned}
use Rattle.dch_script.specs.Report.{dir_word}
use Rattle.dch_script.specs.declared.stages.Question.{Question}
use Rattle.dch_script.specs.declared.stages.Question.TheVariants.{Where, Cells}
use Rattle.dch_stages.specs.Places.{bit_shown, cells_of_tti, shown_at}

-- how many places, or transport block bits, a question can name of channel i in format f
abbrev pub amount_of : Planned → Question → Dir → ℕ → ℕ → ℕ
amount_of planned Where dir i f = cells_of_tti planned dir i f
amount_of planned Cells dir i f = let format : Format =
    format_at (channel_at (side_of planned.config dir) i) f in format.number * format.size

-- the words of a question
unfoldable pub question_text : List ℕ → Dir → ℕ → ℕ → List ℕ
question_text word dir i n = word ++ codes " " ++ dir_word dir ++ codes " " ++ decimal i ++ codes " " ++ decimal n

-- a number, if there is one
abbrev pub number_text : Option ℕ → List ℕ
number_text None = codes "none"
number_text (Some n) = decimal n

-- the line that answers `where` for place p of channel i in format f
abbrev pub where_line : Planned → Dir → ℕ → ℕ → ℕ → List ℕ
where_line planned dir i f p = question_text (codes "where") dir i p ++ codes " coded=" ++
    number_text (shown_at planned dir i f p) ++ codes " bit=" ++ number_text (bit_shown planned dir i f p) ++ codes "\n"

-- place p, behind a space, where it shows bit b
abbrev pub is_bit : ℕ → Option ℕ → Bool
is_bit b None = false
is_bit b (Some n) = n == b

abbrev pub place_text : Planned → Dir → ℕ → ℕ → ℕ → ℕ → List ℕ
place_text planned dir i f b p = if is_bit b (bit_shown planned dir i f p) then codes " " ++ decimal p else []

-- those of the first n places that show it
unfoldable pub places_text : Planned → Dir → ℕ → ℕ → ℕ → ℕ → List ℕ
places_text planned dir i f b zero = []
places_text planned dir i f b (suc n) = places_text planned dir i f b n ++ place_text planned dir i f b n

-- the line that answers `cells` for bit b: the places that show it
abbrev pub cells_line : Planned → Dir → ℕ → ℕ → ℕ → List ℕ
cells_line planned dir i f b = question_text (codes "cells") dir i b ++
    places_text planned dir i f b (cells_of_tti planned dir i f) ++ codes "\n"

-- the line that answers a question
abbrev pub question_line : Planned → Question → Dir → ℕ → ℕ → ℕ → List ℕ
question_line planned Where dir i f n = where_line planned dir i f n
question_line planned Cells dir i f n = cells_line planned dir i f n
