-- The line that answers a configuration which was read, once it is accepted or refused.
use Rattle.std.specs.Prelude.{ℕ, List, [], ◌∷◌, ◌++◌, Option, Some, None, codes, decimal, map}
use Rattle.dch_bits.specs.declared.bit.Bit.{Bit}
use Rattle.dch_bits.specs.Text.{letter_of}
use Rattle.dch_types.specs.declared.channel.Dir.{Dir}
use Rattle.dch_accept.specs.declared.refusal.Refusal.{Refusal}
use Rattle.dch_accept.specs.declared.refusal.Refusal.TheVariants.{NoMemory, NoRate, Sequences, Collision}
use Rattle.dch_check.specs.declared.which.Which.{Which}
use Rattle.dch_check.specs.Refusals.{which_word}
use Rattle.dch_script.specs.Report.{dir_word, line_text}
use Rattle.dch_script.specs.declared.report.Line.TheVariants.{Accepted}

-- further numbers of a list, each behind a comma
abbrev pub more_numbers : List ℕ → List ℕ
more_numbers [] = []
more_numbers (n ∷ ns) = codes "," ++ decimal n ++ more_numbers ns

-- numbers with commas between them
abbrev pub numbers_text : List ℕ → List ℕ
numbers_text [] = []
numbers_text (n ∷ ns) = decimal n ++ more_numbers ns

-- the letters of bits
abbrev pub letters : List Bit → List ℕ
letters bits = map letter_of bits

-- the line where the count of what may collide is this
abbrev pub accepted_line : ℕ → List ℕ
accepted_line count = line_text (Accepted count)

-- and of the second configuration
abbrev pub accepted_second_line : ℕ → List ℕ
accepted_second_line count = codes "accepted second count=" ++ decimal count ++ codes "\n"

-- the lines of one configuration, or of two
abbrev pub accepted_lines : ℕ → Option ℕ → List ℕ
accepted_lines first None = accepted_line first
accepted_lines first (Some second) = accepted_line first ++ accepted_second_line second

-- the line of a combination without a rate
abbrev pub of_combination : Which → ℕ → List ℕ
of_combination which c = codes "refused 25" ++ which_word which ++ codes " combination=" ++ decimal c ++ codes "\n"

-- the line of a count that is too great
abbrev pub of_count : Which → ℕ → List ℕ
of_count which n = codes "refused 27" ++ which_word which ++ codes " count=" ++ decimal n ++ codes "\n"

-- where two code blocks collide
abbrev pub of_block : Which → Dir → ℕ → ℕ → ℕ → List ℕ
of_block which dir channel format block = codes "refused 40" ++ which_word which ++ codes " " ++ dir_word dir
    ++ (codes " channel=" ++ decimal channel) ++ (codes " format=" ++ decimal format)
    ++ (codes " block=" ++ decimal block)

-- the sequence under which they collide, and the two blocks
abbrev pub of_collision : List ℕ → List Bit → List Bit → List ℕ
of_collision sequence first second = codes " sequence=" ++ numbers_text sequence ++ codes " first=" ++ letters first
    ++ codes " second=" ++ letters second ++ codes "\n"

-- the line of a refusal; want of memory has none
abbrev pub acceptance_refusal : Which → Refusal → Option (List ℕ)
acceptance_refusal which NoMemory = None
acceptance_refusal which (NoRate c) = Some (of_combination which c)
acceptance_refusal which (Sequences n) = Some (of_count which n)
acceptance_refusal which (Collision dir channel format block sequence first second) =
    Some (of_block which dir channel format block ++ of_collision sequence first second)
