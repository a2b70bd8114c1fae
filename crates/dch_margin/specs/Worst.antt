-- A worst case of a format: two code blocks that differ in the least cells, and these cells.
use Rattle.std.specs.Prelude.{◌≡◌, ◌<◌, ◌-◌, ◌*◌, ◌/◌, ◌==◌, ◌&&◌, ℕ, zero, suc, List, [], ◌∷◌, ◌++◌, Bool, false, Option, Some, None, length, nat_le, slice_index, slice_index_or, if◌then◌else◌}
use Rattle.dch_bits.specs.declared.bit.Bit.{Bit}
use Rattle.dch_bits.specs.declared.bit.Bit.TheVariants.{Zero}
use Rattle.dch_bits.specs.Bits.{number_of}
use Rattle.dch_types.specs.declared.channel.Coding.{Coding}
use Rattle.dch_types.specs.declared.channel.Side.{Side}
use Rattle.dch_types.specs.Parts.{channel_at}
use Rattle.dch_coding.specs.Chain.{coded_as}
use Rattle.dch_coding.specs.declared.cut.Plan.{Plan}
use Rattle.dch_coding.specs.Segments.{filler_of}
use Rattle.dch_collision.specs.Clear.{Copies, block_copies}
use Rattle.dch_collision.specs.Sequences.{IsLegal}
use Rattle.dch_collision.specs.declared.direction.Direction.{Direction}
use Rattle.dch_collision.specs.declared.direction.Direction.TheVariants.{Up, Down}
use Rattle.dch_margin.specs.Carriers.{Carriers, carried, downlink_carrier, uplink_carrier}
use Rattle.dch_margin.specs.Differ.{DifferInFormat, IsFromZeros, IsLeast, plan_in}
use Rattle.dch_margin.specs.Margins.{AreMany, IsUnsent}
use Rattle.dch_margin.specs.declared.carrier.Carrier.{Carrier}
use Rattle.dch_margin.specs.declared.places.Place.{Place}
use Rattle.dch_margin.specs.declared.worst.Worst.{Worst}
use Rattle.dch_margin.specs.declared.worst.Worst.TheVariants.{Case, Unsent, Sequences}
use Rattle.dch_margin.specs.declared.worst.WorstCase.{WorstCase}

-- whether a coded bit of a TTI is a One, where all code blocks are zeros but one, whose code begins at a bit
abbrev pub is_one : List Bit → ℕ → Option ℕ → Bool
is_one code from None = false
is_one code from (Some j) = nat_le from j && number_of (slice_index_or code (j - from) Zero) == 1

-- the first cells of radio frame n that pass a test, in their order
unfoldable pub cells_among : (ℕ → Bool) → ℕ → ℕ → List Place
cells_among test n zero = []
cells_among test n (suc k) = if test k then cells_among test n k ++ record { frame = n; cell = k } ∷ []
    else cells_among test n k

-- the cells of a radio frame that carry such a One
abbrev pub frame_places : Carrier → List Bit → ℕ → List Place
frame_places carrier code from = cells_among (λ k. is_one code from (carried carrier k)) carrier.number carrier.cells

-- and of the first radio frames
unfoldable pub tti_places : (ℕ → Carrier) → List Bit → ℕ → ℕ → List Place
tti_places carriers code from zero = []
tti_places carriers code from (suc n) = tti_places carriers code from n ++ frame_places (carriers n) code from

-- how the radio frames carry a TTI of channel i in format f that is sent in a sequence of combinations
abbrev pub carriers_in : Direction → Carriers
carriers_in (Up config plans) = uplink_carrier config.now
carriers_in (Down config plan) = downlink_carrier config.now

abbrev pub carriers_under : Carriers → ℕ → ℕ → List ℕ → ℕ → Carrier
carriers_under carriers i f sequence n = carriers i f n (slice_index sequence n)

-- the code of a block that differs from zeros in so many cells, in the place of code block r
pub record IsNear (coding : Coding) (plan : Plan) (sent : ℕ → ℕ) (r cells : ℕ) (code : List Bit) : Type 0 where
  pub block : List Bit
  pub apart : IsFromZeros (coded_as coding) plan.size (filler_of plan r) (block_copies coding plan sent r) cells block
  pub coded : code ≡ coded_as coding block

-- no two blocks differ in fewer cells than zeros and this one do, under these combinations and in the place of this
-- code block; these are just the cells in which they differ, and as many as are fewer than half of them may be wrong
pub record IsWorstCase (side : Side) (sent : Copies) (carriers : Carriers) (i f : ℕ) (worst : WorstCase) : Type 0 where
  pub distance : ℕ
  pub least : IsLeast (DifferInFormat side sent i f) distance
  pub half : worst.cells ≡ (distance - 1) / 2
  pub legal : IsLegal side i f worst.combinations
  pub there : worst.block < (plan_in side i f).blocks
  pub code : List Bit
  pub near : IsNear (channel_at side i).coding (plan_in side i f) (sent i f worst.combinations)
      worst.block distance code
  pub places : worst.places ≡ tti_places (carriers_under carriers i f worst.combinations) code
      (worst.block * length code) (length worst.combinations)

abbrev pub IsWorst : Side → Copies → Carriers → ℕ → ℕ → Worst → Type 0
IsWorst side sent carriers i f (Case worst) = IsWorstCase side sent carriers i f worst
IsWorst side sent carriers i f Unsent = IsUnsent side i f
IsWorst side sent carriers i f (Sequences sequences) = AreMany side i f sequences
