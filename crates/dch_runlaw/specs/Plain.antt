-- Lines that tell of no trouble.
use Rattle.std.specs.Prelude.{◌≡◌, List, [], ◌∷◌, Bool, true, false}
use Rattle.dch_node.specs.Lines.{Line, Took, Full, Wrong, Bad, Reserved, NoBearer, Nobody, PduBad, Outside, Overlong, Got, GotBits, Iub, IubBad, Phy, PhyNone, BadTti, Differs}

-- a unit is accepted or not, or is handed up, or a frame is sent
abbrev pub is_plain : Line → Bool
is_plain (Took dir b) = true
is_plain (Full dir b) = true
is_plain (Wrong dir b) = true
is_plain (Got dir b octets) = true
is_plain (GotBits dir b bits) = true
is_plain (Iub dir set octets) = true
is_plain (Phy dir tfci cells) = true
is_plain (Bad dir i k) = false
is_plain (Reserved dir i) = false
is_plain (NoBearer dir i ct) = false
is_plain (Nobody dir i) = false
is_plain (PduBad dir b n) = false
is_plain (Outside dir b) = false
is_plain (Overlong dir b) = false
is_plain (IubBad dir set n) = false
is_plain PhyNone = false
is_plain (BadTti dir i n) = false
is_plain (Differs dir i) = false

-- lines of which none tells of trouble
abbrev pub ArePlain : List Line → Type 0
ArePlain [] = Unit {0}
ArePlain (line ∷ lines) = (is_plain line ≡ true) × ArePlain lines
