-- What the lines of the program that shows the stages keep.
use Rattle.std.proofs.Common.{◌≡◌, ◌<◌, ◌*◌, ℕ, List, [], ◌∷◌, Bool, true, false, Result, Ok, Err, refl, sym, IfOk, length}
use Rattle.std.specs.Prelude.{codes, nat_lt}
use Rattle.std.specs.Str.{bytes_eq}
use Rattle.std.proofs.lemmas.Bool.{ltb-true}
use Rattle.dch_types.specs.declared.channel.Dir.{Dir}
use Rattle.dch_types.specs.declared.channel.Format.{Format}
use Rattle.dch_types.specs.declared.channel.Trch.{Trch}
use Rattle.dch_types.specs.declared.config.Config.{Config}
use Rattle.dch_types.specs.Parts.{channel_at, format_at, side_of}
use Rattle.dch_script.specs.declared.event.LineError.{LineError}
use Rattle.dch_script.specs.declared.event.LineError.TheVariants.{Number, Text}
use Rattle.dch_script.specs.declared.stages.Question.{Question}
use Rattle.dch_script.specs.declared.stages.StageLine.{StageLine}
use Rattle.dch_script.specs.Forms.{two, three, four}
use Rattle.dch_script.specs.LineWords.{words_of}
use Rattle.dch_script.specs.Meaning.{content_of}
use Rattle.dch_script.specs.ParsedLine.{◌>>=◌}
use Rattle.dch_script.specs.Parts.{combination_of, dir_of, number_in, provided}
use Rattle.dch_script.specs.Stages.{IsOfStages, ParsedStage, ask, blocks_of, channel_of, format_of, frame, is_all_bits, load, parsed_stage, stage_frame, stage_line_words, stage_load, stage_meaning, stage_of, stage_question, stage_words}
use Rattle.dch_script.proofs.Kept.{bind_keeps, combination_keeps, if_keeps, ok_keeps, provided_keeps}

-- a channel that is read is one of the direction
channel_keeps : (config : Config) (dir : Dir) (word : List ℕ) (i : ℕ) → channel_of config dir word ≡ Ok i → i < length (side_of config dir).channels
unfolding channel_of
channel_keeps config dir word i is =
    let count = length (side_of config dir).channels in
    bind_keeps (number_in 255 word) (λ n. provided (nat_lt n count) n Number) i (i < count)
    (λ n _ later. provided_keeps (nat_lt n count) n i Number (λ (m : ℕ). m < count) (λ yes. ltb-true n count yes) later) is

-- and a format one of the channel
format_keeps : (channel : Trch) (word : List ℕ) (f : ℕ) → format_of channel word ≡ Ok f → f < length channel.formats
unfolding format_of
format_keeps channel word f is =
    let count = length channel.formats in
    bind_keeps (number_in 255 word) (λ n. provided (nat_lt n count) n Number) f (f < count)
    (λ n _ later. provided_keeps (nat_lt n count) n f Number (λ (m : ℕ). m < count) (λ yes. ltb-true n count yes) later) is

-- a text that is read is the bits of the format
blocks_keep : (format : Format) (word text : List ℕ) → blocks_of format word ≡ Ok text → is_all_bits (format.number * format.size) text ≡ true
unfolding blocks_of
blocks_keep format word text is =
    let count = format.number * format.size in
    provided_keeps (is_all_bits count word) word text Text (λ (t : List ℕ). is_all_bits count t ≡ true) (λ yes. yes) is

-- `load`
load_keeps : (config : Config) (words : List (List ℕ)) (parsed : ParsedStage) → stage_load config words ≡ Ok parsed → IsOfStages config parsed
unfolding stage_load
load_keeps config words parsed is =
    let P = IsOfStages config parsed in
    bind_keeps (four words) _ parsed P (λ w _ rest.
    bind_keeps (dir_of w.0) _ parsed P (λ dir _ more.
    bind_keeps (channel_of config dir w.1) _ parsed P (λ i channel most.
    let trch = channel_at (side_of config dir) i in
    bind_keeps (format_of trch w.2) _ parsed P (λ f format end.
    bind_keeps (blocks_of (format_at trch f) w.3) _ parsed P (λ bits blocks last.
    ok_keeps (load dir i f bits) parsed (IsOfStages config) (channel_keeps config dir w.1 i channel, format_keeps trch w.2 f format, blocks_keep (format_at trch f) w.3 bits blocks) _ refl last) end) most) more) rest) is

-- `frame`
frame_keeps : (config : Config) (words : List (List ℕ)) (parsed : ParsedStage) → stage_frame config words ≡ Ok parsed → IsOfStages config parsed
unfolding stage_frame
frame_keeps config words parsed is =
    let P = IsOfStages config parsed in
    bind_keeps (two words) _ parsed P (λ w _ rest.
    bind_keeps (dir_of w.0) _ parsed P (λ dir _ more.
    bind_keeps (combination_of config dir w.1) _ parsed P (λ c combination last.
    ok_keeps (frame dir c) parsed (IsOfStages config) (combination_keeps config dir w.1 c combination) _ refl last) more) rest) is

-- `where` and `cells`
question_keeps : (question : Question) (config : Config) (words : List (List ℕ)) (parsed : ParsedStage) → stage_question question config words ≡ Ok parsed → IsOfStages config parsed
unfolding stage_question
question_keeps question config words parsed is =
    let P = IsOfStages config parsed in
    bind_keeps (three words) _ parsed P (λ w _ rest.
    bind_keeps (dir_of w.0) _ parsed P (λ dir _ more.
    bind_keeps (channel_of config dir w.1) _ parsed P (λ i channel most.
    bind_keeps (number_in 460799 w.2) _ parsed P (λ n _ last.
    ok_keeps (ask question dir i n) parsed (IsOfStages config) (channel_keeps config dir w.1 i channel) _ refl last) most) more) rest) is

-- every line
words_keep : (config : Config) (first : List ℕ) (words : List (List ℕ)) (parsed : ParsedStage) → stage_words config first words ≡ Ok parsed → IsOfStages config parsed
unfolding stage_words
words_keep config first words parsed is =
    let P = IsOfStages config parsed in
    if_keeps (bytes_eq first (codes "load")) _ _ parsed P (load_keeps config words parsed) (λ not_load.
    if_keeps (bytes_eq first (codes "frame")) _ _ parsed P (frame_keeps config words parsed) (λ not_frame.
    if_keeps (bytes_eq first (codes "where")) _ _ parsed P (question_keeps _ config words parsed) (λ not_where.
    if_keeps (bytes_eq first (codes "cells")) _ _ parsed P (question_keeps _ config words parsed) (λ none. absurd (cc)) not_where) not_frame) not_load) is

line_words_keep : (config : Config) (words : List (List ℕ)) (parsed : ParsedStage) → stage_line_words config words ≡ Ok parsed → IsOfStages config parsed
line_words_keep config [] parsed is = absurd (cc)
line_words_keep config (first ∷ words) parsed is = words_keep config first words parsed is

meaning_keeps : (config : Config) (line : List ℕ) (parsed : ParsedStage) → stage_meaning config line ≡ Ok parsed → IsOfStages config parsed
unfolding stage_meaning
meaning_keeps config line parsed is =
    bind_keeps (content_of line) (λ text. stage_line_words config (words_of text)) parsed (IsOfStages config parsed) (λ text _ last. line_words_keep config (words_of text) parsed last) is

-- the same of the answer
pub stages_keep : (config : Config) (line : List ℕ) (answer : Result StageLine LineError) → parsed_stage answer ≡ stage_meaning config line → IfOk answer (λ parsed. IsOfStages config (stage_of parsed))
stages_keep config line (Ok parsed) says = meaning_keeps config line (stage_of parsed) (sym says)
stages_keep config line (Err error) says = tt
