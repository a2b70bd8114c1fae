-- The lines of the program that shows the stages of coding.
use Rattle.std.specs.Prelude.{◌≡◌, ◌<◌, ◌*◌, ◌==◌, ℕ, List, [], ◌∷◌, Bool, true, Result, Ok, Err, codes, if◌then◌else◌, length, nat_lt}
use Rattle.std.specs.Str.{bytes_eq}
use Rattle.dch_types.specs.declared.channel.Dir.{Dir}
use Rattle.dch_types.specs.declared.channel.Format.{Format}
use Rattle.dch_types.specs.declared.channel.Trch.{Trch}
use Rattle.dch_types.specs.declared.config.Config.{Config}
use Rattle.dch_types.specs.Parts.{channel_at, format_at, side_of}
use Rattle.dch_script.specs.declared.event.LineError.{LineError}
use Rattle.dch_script.specs.declared.event.LineError.TheVariants.{Word, Number, Text}
use Rattle.dch_script.specs.declared.stages.Question.{Question}
use Rattle.dch_script.specs.declared.stages.Question.TheVariants.{Where, Cells}
use Rattle.dch_script.specs.declared.stages.StageLine.{StageLine}
use Rattle.dch_script.specs.declared.stages.StageLine.TheVariants.{Load, Frame, Ask}
use Rattle.dch_script.specs.Forms.{two, three, four}
use Rattle.dch_script.specs.LineWords.{words_of}
use Rattle.dch_script.specs.Meaning.{content_of}
use Rattle.dch_script.specs.ParsedLine.{◌>>=◌}
use Rattle.dch_script.specs.Parts.{combination_of, dir_of, number_in, provided}
use Rattle.dch_script.specs.Texts.{is_word_of_bits}

-- a line with its text as a plain list
pub data ParsedStage : Type 0 where
  load : Dir → ℕ → ℕ → List ℕ → ParsedStage  -- the channel, the format and the text of the bits
  frame : Dir → ℕ → ParsedStage  -- the combination
  ask : Question → Dir → ℕ → ℕ → ParsedStage  -- the channel, and the place or the bit

-- what a line that was read says
abbrev pub stage_of : StageLine → ParsedStage
stage_of (Load dir channel format bits) = load dir channel format bits.now
stage_of (Frame dir combination) = frame dir combination
stage_of (Ask question dir channel number) = ask question dir channel number

-- what the answer to a line says
abbrev pub parsed_stage : Result StageLine LineError → Result ParsedStage LineError
parsed_stage (Ok line) = Ok (stage_of line)
parsed_stage (Err error) = Err error

-- CHANNEL: the number of a channel of a direction
unfoldable pub channel_of : Config → Dir → List ℕ → Result ℕ LineError
channel_of config dir word = do
  i ← number_in 255 word
  provided (nat_lt i (length (side_of config dir).channels)) i Number

-- FORMAT: the number of a format of a channel
unfoldable pub format_of : Trch → List ℕ → Result ℕ LineError
format_of channel word = do
  f ← number_in 255 word
  provided (nat_lt f (length channel.formats)) f Number

-- just so many letters 0 and 1, or a dot for no bit
unfoldable pub is_all_bits : ℕ → List ℕ → Bool
is_all_bits count text = if count == 0 then bytes_eq text (codes ".") else is_word_of_bits count text

-- BITS: those of all transport blocks of a format
unfoldable pub blocks_of : Format → List ℕ → Result (List ℕ) LineError
blocks_of format text = provided (is_all_bits (format.number * format.size) text) text Text

-- `load DIR CHANNEL FORMAT BITS`
unfoldable pub stage_load : Config → List (List ℕ) → Result ParsedStage LineError
stage_load config words = do
  w ← four words
  dir ← dir_of w.0
  i ← channel_of config dir w.1
  f ← format_of (channel_at (side_of config dir) i) w.2
  bits ← blocks_of (format_at (channel_at (side_of config dir) i) f) w.3
  Ok (load dir i f bits)

-- `frame DIR COMBINATION`
unfoldable pub stage_frame : Config → List (List ℕ) → Result ParsedStage LineError
stage_frame config words = do
  w ← two words
  dir ← dir_of w.0
  c ← combination_of config dir w.1
  Ok (frame dir c)

-- a question's words behind the first: DIR CHANNEL NUMBER. No TTI has more than 460,800 places, or more bits
unfoldable pub stage_question : Question → Config → List (List ℕ) → Result ParsedStage LineError
stage_question question config words = do
  w ← three words
  dir ← dir_of w.0
  i ← channel_of config dir w.1
  n ← number_in 460799 w.2
  Ok (ask question dir i n)

-- what a line says by its first word and the words after it
unfoldable pub stage_words : Config → List ℕ → List (List ℕ) → Result ParsedStage LineError
stage_words config first words =
    if bytes_eq first (codes "load") then stage_load config words else (
    if bytes_eq first (codes "frame") then stage_frame config words else (
    if bytes_eq first (codes "where") then stage_question Where config words else (
    if bytes_eq first (codes "cells") then stage_question Cells config words else Err Word)))

abbrev pub stage_line_words : Config → List (List ℕ) → Result ParsedStage LineError
stage_line_words config [] = Err Word
stage_line_words config (first ∷ words) = stage_words config first words

-- what a line says under a configuration
unfoldable pub stage_meaning : Config → List ℕ → Result ParsedStage LineError
stage_meaning config line = do
  text ← content_of line
  stage_line_words config (words_of text)

-- what the lines keep, so that their words can be used without a further look
abbrev pub IsOfStages : Config → ParsedStage → Type 0
IsOfStages config (load dir i f bits) =
    (i < length (side_of config dir).channels) × (f < length (channel_at (side_of config dir) i).formats)
    × (is_all_bits ((format_at (channel_at (side_of config dir) i) f).number *
    (format_at (channel_at (side_of config dir) i) f).size) bits ≡ true)
IsOfStages config (frame dir c) = c < length (side_of config dir).combinations
IsOfStages config (ask question dir i n) = i < length (side_of config dir).channels
