-- Code block segmentation: how the joined bits of a TTI are cut into code blocks of one size (TS 25.212 4.2.2.2).
use Rattle.std.specs.Prelude.{◌≡◌, ◌+◌, ◌-◌, ◌*◌, ◌/◌, ◌%◌, ◌^◌, ◌≤◌, ◌==◌, ℕ, List, Option, Some, None, nat_lt, if◌then◌else◌, slice_index_or}
use Rattle.dch_bits.specs.declared.bit.Bit.{Bit}
use Rattle.dch_bits.specs.declared.bit.Bit.TheVariants.{Zero}
use Rattle.dch_types.specs.declared.channel.Coding.{Coding}
use Rattle.dch_types.specs.Lengths.{block_count, block_size}
use Rattle.dch_coding.specs.declared.cut.Plan.{Plan}

-- the plan of x bits in so many blocks of this size: what the blocks hold beside the bits is filler
abbrev pub plan_of_blocks : ℕ → ℕ → ℕ → Plan
plan_of_blocks x count size = record { bits = x; blocks = count; size = size; filler = count * size - x }

-- how x bits are cut
abbrev pub plan_of : ℕ → Coding → Plan
plan_of x coding = plan_of_blocks x (block_count x coding) (block_size x (block_count x coding))

-- the plan of some number of bits
abbrev pub IsPlan : Plan → Type 0
IsPlan plan = (x : ℕ) × ((coding : Coding) × ((x ≤ 2 ^ 31) × (plan ≡ plan_of x coding)))

-- the filler of code block r: all of it stands in the first
abbrev pub filler_of : Plan → ℕ → ℕ
filler_of plan r = if r == 0 then plan.filler else 0

-- bit k of code block r: a filler zero, or a joined bit
abbrev pub block_bit : Plan → List Bit → ℕ → ℕ → Bit
block_bit plan joined r k = if nat_lt (r * plan.size + k) plan.filler then Zero
    else slice_index_or joined (r * plan.size + k - plan.filler) Zero

-- the code block of joined bit i, and the place in it
abbrev pub place_of : Plan → ℕ → Option (ℕ × ℕ)
place_of plan i = if nat_lt i plan.bits then Some ((i + plan.filler) / plan.size, (i + plan.filler) % plan.size)
    else None
