-- Radio frames that arrive with some damage, and TTIs that are kept as they were sent but for some cells. A direction
-- tells which cells show the copies of a coded bit.
use Rattle.std.specs.Prelude.{◌≡◌, ◌+◌, ◌*◌, ◌<◌, ◌≤◌, ℕ, zero, suc, List, length, slice_index_or}
use Rattle.dch_bits.specs.declared.bit.Bit.{Bit}
use Rattle.dch_bits.specs.declared.bit.Trit.{Trit}
use Rattle.dch_bits.specs.declared.bit.Trit.TheVariants.{Zero as ZeroCell, One as OneCell, Off}
use Rattle.dch_bits.specs.Bits.{distance}
use Rattle.dch_types.specs.declared.channel.Coding.{Coding}
use Rattle.dch_types.specs.declared.channel.Side.{Side}
use Rattle.dch_types.specs.Lengths.{coded_block}
use Rattle.dch_types.specs.Parts.{channel_at}
use Rattle.dch_types.specs.Sums.{total}
use Rattle.dch_coding.specs.Segments.{plan_of, filler_of}
use Rattle.dch_coding.specs.declared.cut.Plan.{Plan}
use Rattle.dch_coding.specs.Chain.{coded_as}
use Rattle.dch_frame.specs.Stages.{code_back, code_place}
use Rattle.dch_trellis.specs.Distance.{AreToldApart}
use Rattle.dch_tfci.specs.Tfci.{most_wrong}
use Rattle.dch_accept.specs.CollisionClear.{block_copies, joined_in}
use Rattle.dch_tti.specs.Corrected.{least_distance}
use Rattle.dch_tti.specs.RxFrames.{RxFrames, frame_at}

-- a radio frame arrives with as many cells, and of its TFCI bits four of 30 or 20 of 120 at most are wrong
pub record IsLittleDamaged (sent_tfci : List Bit) (sent_cells : List Trit) (tfci : List Bit)
    (cells : List Trit) : Type 0 where
  pub sized : length tfci ≡ length sent_tfci
  pub close : distance tfci sent_tfci ≤ most_wrong (length sent_tfci)
  pub whole : length cells ≡ length sent_cells

-- how much the change of a cell counts: once where nothing arrives in place of a bit, and twice where the other bit
-- does
abbrev pub changed : Trit → Trit → ℕ
changed ZeroCell ZeroCell = 0
changed ZeroCell Off = 1
changed OneCell OneCell = 0
changed OneCell Off = 1
changed Off Off = 0
changed sent received = 2

-- and the changes among n cells from a place on
unfoldable pub changed_among : (ℕ → Trit) → (ℕ → Trit) → ℕ → ℕ → ℕ
changed_among sent received at zero = 0
changed_among sent received at (suc n) = changed_among sent received at n + changed (sent (at + n)) (received (at + n))

abbrev pub cell_at : List Trit → ℕ → Trit
cell_at cells p = slice_index_or cells p Off

-- a frame's cells and its multiplexed places go to one another one to one
pub record IsOneToOne (code n : ℕ) : Type 0 where
  pub back : (p : ℕ) → p < n → (code_back code p < n) × (code_place code (code_back code p) ≡ p)
  pub place : (k : ℕ) → k < n → (code_place code k < n) × (code_back code (code_place code k) ≡ k)

-- the changes of code block r, where so much changed among the cells of each coded bit of the TTI
abbrev pub block_changes : Coding → Plan → (ℕ → ℕ) → ℕ → ℕ
block_changes coding plan changes r = total (λ t. changes (r * coded_block coding plan.size + t))
    (coded_block coding plan.size)

-- the changes of code block r count less than the copies in which two blocks differ
pub record IsFewChanged (coding : Coding) (plan : Plan) (copies changes : ℕ → ℕ) (r : ℕ) : Type 0 where
  pub count : ℕ
  pub apart : AreToldApart (coded_as coding) plan.size (filler_of plan r) (block_copies coding plan copies r) count
  pub few : block_changes coding plan changes r < count

-- and so in each code block of a TTI of channel i in format f
abbrev pub AreFewChanged : Side → ℕ → ℕ → (ℕ → ℕ) → (ℕ → ℕ) → Type 0
AreFewChanged side i f copies changes =
    let coding = (channel_at side i).coding in
    let plan = plan_of (joined_in side i f) coding in
    (r : ℕ) → r < plan.blocks → IsFewChanged coding plan copies changes r

-- the changes of each code block count so little, where each coded bit is sent so many times at least
abbrev pub AreLittleChanged : Side → ℕ → ℕ → ℕ → (ℕ → ℕ) → Type 0
AreLittleChanged side i f least changes =
    let coding = (channel_at side i).coding in
    let plan = plan_of (joined_in side i f) coding in
    (r : ℕ) → r < plan.blocks → block_changes coding plan changes r < least * least_distance coding

-- the radio frames of a TTI of channel i are kept in the same combinations
abbrev pub AreSameCombinations : Side → ℕ → RxFrames → RxFrames → Type 0
AreSameCombinations side i sent received = (n : ℕ) → n < (channel_at side i).frames
    → (frame_at side received i n).combination ≡ (frame_at side sent i n).combination
