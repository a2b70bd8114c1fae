-- Who is told of lines, one after another.
use Rattle.std.specs.Prelude.{◌≡◌, List, [], ◌∷◌}
use Rattle.dch_indication.specs.Lines.{Line, Took, Full, Wrong, Bad, Reserved, NoBearer, Nobody, PduBad, Outside, Overlong, Got, GotBits, Iub, IubBad, Phy, PhyNone, BadTti, Differs}
use Rattle.dch_indication.specs.declared.indication.Indication.{Indication}
use Rattle.dch_indication.specs.declared.indication.Indication.TheVariants as it

-- the line of an indication
abbrev pub line_of : Indication → Line
line_of (it.Took dir bearer) = Took dir bearer
line_of (it.Full dir bearer) = Full dir bearer
line_of (it.Wrong dir bearer) = Wrong dir bearer
line_of (it.Bad dir channel block) = Bad dir channel block
line_of (it.Reserved dir channel) = Reserved dir channel
line_of (it.NoBearer dir channel ct) = NoBearer dir channel ct
line_of (it.Nobody dir channel) = Nobody dir channel
line_of (it.PduBad dir bearer number) = PduBad dir bearer number
line_of (it.Outside dir bearer) = Outside dir bearer
line_of (it.Overlong dir bearer) = Overlong dir bearer
line_of (it.Got dir bearer octets) = Got dir bearer octets.now
line_of (it.GotBits dir bearer bits) = GotBits dir bearer bits.now
line_of (it.Iub dir set frame) = Iub dir set frame.now
line_of (it.IubBad dir set number) = IubBad dir set number
line_of (it.Phy dir tfci cells) = Phy dir tfci.now cells.now
line_of it.PhyNone = PhyNone
line_of (it.BadTti dir channel frame) = BadTti dir channel frame
line_of (it.Differs dir channel) = Differs dir channel

-- lines are told one after another, where a single one makes this of whoever is told
abbrev pub Told : {S : Type 0} → (S → Line → S → Type 0) → S → List Line → S → Type 0
Told shows old [] new = new ≡ old
Told {S} shows old (line ∷ lines) new = (mid : S) × (shows old line mid × Told shows mid lines new)
