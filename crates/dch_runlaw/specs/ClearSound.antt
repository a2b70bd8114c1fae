-- Lines without one of the radio side's trouble.
use Rattle.std.specs.Prelude.{◌≡◌, List, [], ◌∷◌, Bool, true, false}
use Rattle.dch_node.specs.Lines.{Line, Took, Full, Wrong, Bad, Reserved, NoBearer, Nobody, PduBad, Outside, Overlong, Got, GotBits, Iub, IubBad, Phy, PhyNone, BadTti, Differs}

-- a downlink radio frame is sent, no TTI is lost, no block is bad or another one than was given, and no Iub frame is
-- refused
abbrev pub is_sound : Line → Bool
is_sound (Took dir b) = true
is_sound (Full dir b) = true
is_sound (Wrong dir b) = true
is_sound (Bad dir i k) = false
is_sound (Reserved dir i) = true
is_sound (NoBearer dir i ct) = true
is_sound (Nobody dir i) = true
is_sound (PduBad dir b n) = true
is_sound (Outside dir b) = true
is_sound (Overlong dir b) = true
is_sound (Got dir b octets) = true
is_sound (GotBits dir b bits) = true
is_sound (Iub dir set octets) = true
is_sound (IubBad dir set n) = false
is_sound (Phy dir tfci cells) = true
is_sound PhyNone = false
is_sound (BadTti dir i n) = false
is_sound (Differs dir i) = false

-- and so of all lines
abbrev pub AreSound : List Line → Type 0
AreSound [] = Unit {0}
AreSound (line ∷ lines) = (is_sound line ≡ true) × AreSound lines
