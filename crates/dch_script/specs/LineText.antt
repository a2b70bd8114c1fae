-- The text of what nodes tell.
use Rattle.std.specs.Prelude.{ℕ, List, [], ◌∷◌, ◌++◌, codes}
use Rattle.dch_indication.specs.Lines.{Line, Took, Full, Wrong, Bad, Reserved, NoBearer, Nobody, PduBad, Outside, Overlong, Got, GotBits, Iub, IubBad, Phy, PhyNone, BadTti, Differs}
use Rattle.dch_script.specs.Report.{bits_shown, iub_text, octets_shown, pair_text, phy_text, place_text, unit_text}

-- the words of a line, without its line feed
abbrev pub words_of : Line → List ℕ
words_of (Took dir b) = place_text (codes "took ") dir b
words_of (Full dir b) = place_text (codes "full ") dir b
words_of (Wrong dir b) = place_text (codes "wrong ") dir b
words_of (Bad dir i block) = pair_text (codes "bad ") dir i block
words_of (Reserved dir i) = place_text (codes "reserved ") dir i
words_of (NoBearer dir i ct) = pair_text (codes "nobearer ") dir i ct
words_of (Nobody dir i) = place_text (codes "nobody ") dir i
words_of (PduBad dir b n) = pair_text (codes "pdubad ") dir b n
words_of (Outside dir b) = place_text (codes "outside ") dir b
words_of (Overlong dir b) = place_text (codes "overlong ") dir b
words_of (Got dir b octets) = unit_text dir b (octets_shown octets)
words_of (GotBits dir b bits) = unit_text dir b (bits_shown bits)
words_of (Iub dir set octets) = iub_text dir set octets
words_of (IubBad dir set n) = pair_text (codes "iubbad ") dir set n
words_of (Phy dir tfci cells) = phy_text dir tfci cells
words_of PhyNone = codes "phydown none"
words_of (BadTti dir i n) = pair_text (codes "badtti ") dir i n
words_of (Differs dir i) = place_text (codes "false ") dir i

-- the text of lines: the words of each, and a line feed
abbrev pub text_of : List Line → List ℕ
text_of [] = []
text_of (line ∷ lines) = words_of line ++ (codes "\n" ++ text_of lines)
