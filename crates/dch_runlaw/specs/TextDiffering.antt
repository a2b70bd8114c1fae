-- The lines that tell of a channel whose blocks differ, and their rows in the text.
use Rattle.std.specs.Prelude.{◌<◌, ◌^◌, ◌++◌, ◌&&◌, ◌==◌, ℕ, List, [], ◌∷◌, Bool, false, codes, if◌then◌else◌}
use Rattle.dch_types.specs.declared.channel.Dir.{Dir}
use Rattle.dch_script.specs.Report.{place_text}
use Rattle.dch_node.specs.Lines.{Line, Took, Full, Wrong, Bad, Reserved, NoBearer, Nobody, PduBad, Outside, Overlong, Got, GotBits, Iub, IubBad, Phy, PhyNone, BadTti, Differs}
use Rattle.dch_damage.specs.Damage.{same_dir}
use Rattle.dch_runlaw.specs.Rows.{starts_with}

-- the row `false up I` or `false down I` with its line feed, and the rows that begin so, which are such rows
abbrev pub false_words : Dir → ℕ → List ℕ
false_words dir i = place_text (codes "false ") dir i ++ codes "\n"

abbrev pub false_rows : Dir → ℕ → List (List ℕ) → List (List ℕ)
false_rows dir i [] = []
false_rows dir i (row ∷ rows) = if starts_with (false_words dir i) row then (row ∷ false_rows dir i rows)
    else false_rows dir i rows

-- blocks were taken of channel i of a direction that it was not given
abbrev pub is_false : Dir → ℕ → Line → Bool
is_false dir i (Differs d j) = same_dir d dir && (j == i)
is_false dir i (Took d c) = false
is_false dir i (Full d c) = false
is_false dir i (Wrong d c) = false
is_false dir i (Bad d j k) = false
is_false dir i (Reserved d j) = false
is_false dir i (NoBearer d j ct) = false
is_false dir i (Nobody d j) = false
is_false dir i (PduBad d c n) = false
is_false dir i (Outside d c) = false
is_false dir i (Overlong d c) = false
is_false dir i (Got d c octets) = false
is_false dir i (GotBits d c bits) = false
is_false dir i (Iub d set octets) = false
is_false dir i (IubBad d set n) = false
is_false dir i (Phy d tfci cells) = false
is_false dir i PhyNone = false
is_false dir i (BadTti d j n) = false

abbrev pub falses : Dir → ℕ → List Line → List Line
falses dir i [] = []
falses dir i (line ∷ lines) = if is_false dir i line then (line ∷ falses dir i lines) else falses dir i lines

-- the number of the channel in such a line has at most 64 bits
abbrev pub IsLow : Line → Type 0
IsLow (Differs d i) = i < 2 ^ 64
IsLow (Took d c) = Unit {0}
IsLow (Full d c) = Unit {0}
IsLow (Wrong d c) = Unit {0}
IsLow (Bad d i k) = Unit {0}
IsLow (Reserved d i) = Unit {0}
IsLow (NoBearer d i ct) = Unit {0}
IsLow (Nobody d i) = Unit {0}
IsLow (PduBad d c n) = Unit {0}
IsLow (Outside d c) = Unit {0}
IsLow (Overlong d c) = Unit {0}
IsLow (Got d c octets) = Unit {0}
IsLow (GotBits d c bits) = Unit {0}
IsLow (Iub d set octets) = Unit {0}
IsLow (IubBad d set n) = Unit {0}
IsLow (Phy d tfci cells) = Unit {0}
IsLow PhyNone = Unit {0}
IsLow (BadTti d i n) = Unit {0}

abbrev pub AreLow : List Line → Type 0
AreLow [] = Unit {0}
AreLow (line ∷ lines) = IsLow line × AreLow lines
