-- The direction in which the units and PDUs of lines travelled.
use Rattle.std.specs.Prelude.{◌&&◌, ◌==◌, ℕ, List, [], ◌∷◌, Bool, false, if◌then◌else◌}
use Rattle.dch_types.specs.declared.channel.Dir.{Dir}
use Rattle.dch_damage.specs.Damage.{same_dir}
use Rattle.dch_node.specs.Lines.{Line, Took, Full, Wrong, Bad, Reserved, NoBearer, Nobody, PduBad, Outside, Overlong, Got, GotBits, Iub, IubBad, Phy, PhyNone, BadTti, Differs}

-- a line on a PDU or unit of bearer b that travelled in a direction
abbrev pub is_on : Dir → ℕ → Line → Bool
is_on dir b (PduBad d c n) = same_dir d dir && (c == b)
is_on dir b (Outside d c) = same_dir d dir && (c == b)
is_on dir b (Overlong d c) = same_dir d dir && (c == b)
is_on dir b (Got d c octets) = same_dir d dir && (c == b)
is_on dir b (GotBits d c bits) = same_dir d dir && (c == b)
is_on dir b (Took d c) = false
is_on dir b (Full d c) = false
is_on dir b (Wrong d c) = false
is_on dir b (Bad d i k) = false
is_on dir b (Reserved d i) = false
is_on dir b (NoBearer d i ct) = false
is_on dir b (Nobody d i) = false
is_on dir b (Iub d set octets) = false
is_on dir b (IubBad d set n) = false
is_on dir b (Phy d tfci cells) = false
is_on dir b PhyNone = false
is_on dir b (BadTti d i n) = false
is_on dir b (Differs d i) = false

-- those lines among more, in order
abbrev pub lines_on : Dir → ℕ → List Line → List Line
lines_on dir b [] = []
lines_on dir b (line ∷ lines) = if is_on dir b line then (line ∷ lines_on dir b lines) else lines_on dir b lines
