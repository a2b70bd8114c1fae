-- The rows of a report's text, and those on which units of a bearer are handed up.
use Rattle.std.specs.Prelude.{◌<◌, ◌^◌, ◌++◌, ◌&&◌, ◌==◌, ℕ, List, [], ◌∷◌, Bool, true, false, codes, if◌then◌else◌}
use Rattle.dch_types.specs.declared.channel.Dir.{Dir}
use Rattle.dch_script.specs.Report.{place_text}
use Rattle.dch_node.specs.Lines.{Line, Took, Full, Wrong, Bad, Reserved, NoBearer, Nobody, PduBad, Outside, Overlong, Got, GotBits, Iub, IubBad, Phy, PhyNone, BadTti, Differs}
pub use Rattle.dch_lines.specs.TextRows.{row_of, rows_of}
use Rattle.dch_damage.specs.Damage.{same_dir}

-- a text begins with another
abbrev pub starts_with : List ℕ → List ℕ → Bool
starts_with [] text = true
starts_with (x ∷ xs) [] = false
starts_with (x ∷ xs) (y ∷ ys) = (x == y) && starts_with xs ys

-- `got up B ` or `got down B `, and the rows that begin so
abbrev pub got_words : Dir → ℕ → List ℕ
got_words dir b = place_text (codes "got ") dir b ++ codes " "

abbrev pub got_rows : Dir → ℕ → List (List ℕ) → List (List ℕ)
got_rows dir b [] = []
got_rows dir b (row ∷ rows) = if starts_with (got_words dir b) row then (row ∷ got_rows dir b rows)
    else got_rows dir b rows

-- a unit of a bearer that travelled in a direction is handed up
abbrev pub is_got : Dir → ℕ → Line → Bool
is_got dir b (Got d c octets) = same_dir d dir && (c == b)
is_got dir b (GotBits d c bits) = same_dir d dir && (c == b)
is_got dir b (PduBad d c n) = false
is_got dir b (Outside d c) = false
is_got dir b (Overlong d c) = false
is_got dir b (Took d c) = false
is_got dir b (Full d c) = false
is_got dir b (Wrong d c) = false
is_got dir b (Bad d i k) = false
is_got dir b (Reserved d i) = false
is_got dir b (NoBearer d i ct) = false
is_got dir b (Nobody d i) = false
is_got dir b (Iub d set octets) = false
is_got dir b (IubBad d set n) = false
is_got dir b (Phy d tfci cells) = false
is_got dir b PhyNone = false
is_got dir b (BadTti d i n) = false
is_got dir b (Differs d i) = false

-- those lines among more, in order
abbrev pub gots : Dir → ℕ → List Line → List Line
gots dir b [] = []
gots dir b (line ∷ lines) = if is_got dir b line then (line ∷ gots dir b lines) else gots dir b lines

-- the number of the bearer in such a line has at most 64 bits
abbrev pub IsSmall : Line → Type 0
IsSmall (Got d c octets) = c < 2 ^ 64
IsSmall (GotBits d c bits) = c < 2 ^ 64
IsSmall (PduBad d c n) = Unit {0}
IsSmall (Outside d c) = Unit {0}
IsSmall (Overlong d c) = Unit {0}
IsSmall (Took d c) = Unit {0}
IsSmall (Full d c) = Unit {0}
IsSmall (Wrong d c) = Unit {0}
IsSmall (Bad d i k) = Unit {0}
IsSmall (Reserved d i) = Unit {0}
IsSmall (NoBearer d i ct) = Unit {0}
IsSmall (Nobody d i) = Unit {0}
IsSmall (Iub d set octets) = Unit {0}
IsSmall (IubBad d set n) = Unit {0}
IsSmall (Phy d tfci cells) = Unit {0}
IsSmall PhyNone = Unit {0}
IsSmall (BadTti d i n) = Unit {0}
IsSmall (Differs d i) = Unit {0}

-- and so in all of these lines
abbrev pub AreSmall : List Line → Type 0
AreSmall [] = Unit {0}
AreSmall (line ∷ lines) = IsSmall line × AreSmall lines
