-- In how many cells two code blocks differ, under the legal sequences of combinations.
use Rattle.std.specs.Prelude.{◌≡◌, ◌≢◌, ◌≤◌, ◌<◌, ℕ, List, replicate}
use Rattle.dch_bits.specs.declared.bit.Bit.{Bit}
use Rattle.dch_bits.specs.declared.bit.Bit.TheVariants.{Zero}
use Rattle.dch_types.specs.declared.channel.Coding.{Coding}
use Rattle.dch_types.specs.declared.channel.Side.{Side}
use Rattle.dch_types.specs.Parts.{channel_at}
use Rattle.dch_coding.specs.Chain.{coded_as}
use Rattle.dch_coding.specs.declared.cut.Plan.{Plan}
use Rattle.dch_coding.specs.Segments.{plan_of, filler_of}
use Rattle.dch_trellis.specs.Nearest.{IsBlock}
use Rattle.dch_trellis.specs.Distance.{copies_between}
use Rattle.dch_collision.specs.Clear.{Copies, block_copies, joined_in}
use Rattle.dch_collision.specs.Sequences.{IsLegal}
use Rattle.dch_margin.specs.declared.distance.Least.{Least}

-- a number has a property, and no lesser one has it
pub record IsLeast (Has : ℕ → Type 0) (n : ℕ) : Type 0 where
  pub has : Has n
  pub least : (other : ℕ) → Has other → n ≤ other

-- two different blocks of this size and filler differ in so many cells, by a code of which each bit is sent in so many
pub record DifferIn (code : List Bit → List Bit) (size filler : ℕ) (sent : ℕ → ℕ) (cells : ℕ) : Type 0 where
  pub first : List Bit
  pub second : List Bit
  pub shape : IsBlock size filler first
  pub other : IsBlock size filler second
  pub differ : first ≢ second
  pub between : copies_between sent (code first) (code second) ≡ cells

-- and so do zeros and this block
pub record IsFromZeros (code : List Bit → List Bit) (size filler : ℕ) (sent : ℕ → ℕ) (cells : ℕ)
    (block : List Bit) : Type 0 where
  pub pair : DifferIn code size filler sent cells
  pub zeros : pair.first ≡ replicate size Zero
  pub is : pair.second ≡ block

-- two blocks in the place of code block r do, where coded bit j of the TTI is sent `sent j` times
abbrev pub DifferInBlock : Coding → Plan → (ℕ → ℕ) → ℕ → ℕ → Type 0
DifferInBlock coding plan sent r cells = DifferIn (coded_as coding) plan.size (filler_of plan r)
    (block_copies coding plan sent r) cells

-- and two in the place of one of the first code blocks
pub record DifferBelow (coding : Coding) (plan : Plan) (sent : ℕ → ℕ) (blocks cells : ℕ) : Type 0 where
  pub block : ℕ
  pub there : block < blocks
  pub pair : DifferInBlock coding plan sent block cells

-- they differ in so few in the place of this one, and in none in fewer
pub record IsLeastBelow (coding : Coding) (plan : Plan) (sent : ℕ → ℕ) (blocks : ℕ) (least : Least) : Type 0 where
  pub there : least.block < blocks
  pub pair : DifferInBlock coding plan sent least.block least.cells
  pub none : (other : ℕ) → DifferBelow coding plan sent blocks other → least.cells ≤ other

-- how the bits of channel i in format f are cut
abbrev pub plan_in : Side → ℕ → ℕ → Plan
plan_in side i f = plan_of (joined_in side i f) (channel_at side i).coding

-- under a sequence of combinations, in the place of some code block
abbrev pub DifferUnder : Side → Copies → ℕ → ℕ → List ℕ → ℕ → Type 0
DifferUnder side sent i f sequence cells = DifferBelow (channel_at side i).coding (plan_in side i f) (sent i f sequence)
    (plan_in side i f).blocks cells

abbrev pub IsLeastUnder : Side → Copies → ℕ → ℕ → List ℕ → Least → Type 0
IsLeastUnder side sent i f sequence least = IsLeastBelow (channel_at side i).coding (plan_in side i f)
    (sent i f sequence) (plan_in side i f).blocks least

-- and under some legal sequence
pub record DifferInFormat (side : Side) (sent : Copies) (i f cells : ℕ) : Type 0 where
  pub sequence : List ℕ
  pub legal : IsLegal side i f sequence
  pub pair : DifferUnder side sent i f sequence cells

-- they differ in so few under this legal sequence, in the place of this code block, and under none in fewer
pub record IsLeastInFormat (side : Side) (sent : Copies) (i f : ℕ) (sequence : List ℕ) (least : Least) : Type 0 where
  pub legal : IsLegal side i f sequence
  pub there : least.block < (plan_in side i f).blocks
  pub pair : DifferInBlock (channel_at side i).coding (plan_in side i f) (sent i f sequence) least.block least.cells
  pub none : (other : ℕ) → DifferInFormat side sent i f other → least.cells ≤ other
