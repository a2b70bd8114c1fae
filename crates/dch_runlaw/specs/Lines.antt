-- The lines of a report on what came for a bearer: on its PDUs, and on the units in them.
use Rattle.std.specs.Prelude.{ℕ, List, [], ◌∷◌, Bool, false, ◌==◌, if◌then◌else◌}
use Rattle.dch_node.specs.Lines.{Line, Took, Full, Wrong, Bad, Reserved, NoBearer, Nobody, PduBad, Outside, Overlong, Got, GotBits, Iub, IubBad, Phy, PhyNone, BadTti, Differs}

-- a line on a PDU that came for a bearer, or on a unit in it
abbrev pub is_of : ℕ → Line → Bool
is_of b (PduBad dir c n) = c == b
is_of b (Outside dir c) = c == b
is_of b (Overlong dir c) = c == b
is_of b (Got dir c octets) = c == b
is_of b (GotBits dir c bits) = c == b
is_of b (Took dir c) = false
is_of b (Full dir c) = false
is_of b (Wrong dir c) = false
is_of b (Bad dir i k) = false
is_of b (Reserved dir i) = false
is_of b (NoBearer dir i ct) = false
is_of b (Nobody dir i) = false
is_of b (Iub dir set octets) = false
is_of b (IubBad dir set n) = false
is_of b (Phy dir tfci cells) = false
is_of b PhyNone = false
is_of b (BadTti dir i n) = false
is_of b (Differs dir i) = false

-- the lines on a bearer among others, in order: those on its PDUs, and on the SDUs in them
abbrev pub lines_of : ℕ → List Line → List Line
lines_of b [] = []
lines_of b (line ∷ lines) = if is_of b line then (line ∷ lines_of b lines) else lines_of b lines
