-- Lines of a few words, and lines that are no longer than those of a frame.
use Rattle.std.specs.Prelude.{◌≡◌, ◌<◌, ◌≤◌, ◌⊎◌, ℕ, List, [], ◌∷◌, length}
use Rattle.dch_bits.specs.declared.bit.Bit.{Bit}
use Rattle.dch_bits.specs.declared.bit.Trit.{Trit}
use Rattle.dch_types.specs.declared.channel.Dir.{Dir}
use Rattle.dch_indication.specs.Lines.{Line, Took, Full, Wrong, Bad, Reserved, NoBearer, Nobody, PduBad, Outside, Overlong, Got, GotBits, Iub, IubBad, Phy, PhyNone, BadTti, Differs}

-- a line has no unit, block or frame, and its numbers are below 1,000
abbrev pub HasFewWords : Line → Type 0
HasFewWords (Took dir b) = b < 1000
HasFewWords (Full dir b) = b < 1000
HasFewWords (Wrong dir b) = b < 1000
HasFewWords (Bad dir i k) = (i < 1000) × (k < 1000)
HasFewWords (Reserved dir i) = i < 1000
HasFewWords (NoBearer dir i ct) = (i < 1000) × (ct < 1000)
HasFewWords (Nobody dir i) = i < 1000
HasFewWords (PduBad dir b n) = (b < 1000) × (n < 1000)
HasFewWords (Outside dir b) = b < 1000
HasFewWords (Overlong dir b) = b < 1000
HasFewWords (Got dir b octets) = ⊥
HasFewWords (GotBits dir b bits) = ⊥
HasFewWords (Iub dir set octets) = ⊥
HasFewWords (IubBad dir set n) = (set < 1000) × (n < 1000)
HasFewWords (Phy dir tfci cells) = ⊥
HasFewWords PhyNone = Unit {0}
HasFewWords (BadTti dir i n) = (i < 1000) × (n < 1000)
HasFewWords (Differs dir i) = i < 1000

-- it is on an Iub frame of a set, or on a radio frame, that is no longer than one of a good configuration
pub record IsIubLine (line : Line) : Type 0 where
  pub dir : Dir
  pub set : ℕ
  pub octets : List ℕ
  pub is : line ≡ Iub dir set octets
  pub small : set < 1000
  pub few : length octets ≤ 140000

pub record IsRadioLine (line : Line) : Type 0 where
  pub dir : Dir
  pub tfci : List Bit
  pub cells : List Trit
  pub is : line ≡ Phy dir tfci cells
  pub short : length tfci ≤ 120
  pub few : length cells ≤ 57600

-- it is short, or on such a frame
abbrev pub IsLimited : Line → Type 0
IsLimited line = HasFewWords line ⊎ (IsIubLine line ⊎ IsRadioLine line)

abbrev pub AreAllLimited : List Line → Type 0
AreAllLimited [] = Unit {0}
AreAllLimited (line ∷ lines) = IsLimited line × AreAllLimited lines

-- there are at most so many lines, all of them limited
pub record AreLimited (count : ℕ) (lines : List Line) : Type 0 where
  pub few : length lines ≤ count
  pub each : AreAllLimited lines
