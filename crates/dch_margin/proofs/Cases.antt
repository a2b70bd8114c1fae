-- A worst case of a format.
use Rattle.std.proofs.Common.{◌≡◌, ◌<◌, ◌≤◌, ◌+◌, ◌*◌, ℕ, List, length, arith, sym, subst}
use Rattle.dch_bits.specs.declared.bit.Bit.{Bit}
use Rattle.dch_bits.specs.declared.bit.Vote.{Vote}
use Rattle.dch_types.specs.declared.channel.Coding.{Coding}
use Rattle.dch_types.specs.declared.channel.Side.{Side}
use Rattle.dch_types.specs.Lengths.{coded_block}
use Rattle.dch_types.specs.Parts.{channel_at}
use Rattle.dch_coding.specs.declared.cut.Plan.{Plan}
use Rattle.dch_coding.specs.Segments.{filler_of}
use Rattle.dch_trellis.specs.Distance.{copies_at}
use Rattle.dch_collision.specs.Clear.{Copies, block_copies}
use Rattle.dch_margin.specs.Counts.{AreCounts}
use Rattle.dch_margin.specs.Differ.{DifferInBlock, IsLeast, IsLeastInFormat, plan_in}
use Rattle.dch_margin.specs.Sizes.{AreSizes}
use Rattle.dch_margin.specs.Worst.{IsNear}
use Rattle.dch_margin.specs.declared.distance.Least.{Least}
use Rattle.dch_margin.specs.declared.sizes.Sizes.{Sizes}
use Rattle.dch_margin.proofs.Counts.{counts_are}
use Rattle.dch_margin.proofs.Differ.{from_zeros_same, inside_all, least_copies}

-- votes that count the cells of a TTI count those of each of its code blocks
counted : (side : Side) (sent : Copies) (i f : ℕ) (sequence : List ℕ) (votes : List Vote) (sizes : Sizes) (r t : ℕ) → AreSizes side i f sizes → sizes.bits ≤ length votes → AreCounts (sent i f sequence) votes → r < sizes.plan.blocks → t < coded_block sizes.coding sizes.plan.size
    → block_copies sizes.coding sizes.plan (copies_at votes) r t ≡ block_copies sizes.coding sizes.plan (sent i f sequence) r t
counted side sent i f sequence votes sizes r t are long counts there inside =
    let coded : ℕ = coded_block sizes.coding sizes.plan.size in
    counts_are (sent i f sequence) votes (r * coded + t) counts (omega (arith, inside_all r t sizes.plan.blocks coded there inside, are.whole, long))

inside_plan : (side : Side) (i f : ℕ) (sizes : Sizes) (r : ℕ) → AreSizes side i f sizes → r < (plan_in side i f).blocks → r < sizes.plan.blocks
inside_plan side i f sizes r are there = subst (λ (plan : Plan). r < plan.blocks) (sym are.plan) there

-- the least of a format is that of its code block
pub least_of_block : (side : Side) (sent : Copies) (i f : ℕ) (sequence : List ℕ) (votes : List Vote) (sizes : Sizes) (least : Least) → AreSizes side i f sizes → sizes.bits ≤ length votes → AreCounts (sent i f sequence) votes → IsLeastInFormat side sent i f sequence least
    → IsLeast (DifferInBlock sizes.coding sizes.plan (copies_at votes) least.block) least.cells
least_of_block side sent i f sequence votes sizes least are long counts is =
    let r : ℕ = least.block in
    least_copies sizes.coding sizes.plan.size (filler_of sizes.plan r) (block_copies sizes.coding sizes.plan (sent i f sequence) r) (block_copies sizes.coding sizes.plan (copies_at votes) r) least.cells
    (λ t inside. sym (counted side sent i f sequence votes sizes r t are long counts (inside_plan side i f sizes r are is.there) inside))
    (subst (λ (coding : Coding). IsLeast (DifferInBlock coding sizes.plan (sent i f sequence) r) least.cells) (sym are.coding)
    (subst (λ (plan : Plan). IsLeast (DifferInBlock (channel_at side i).coding plan (sent i f sequence) r) least.cells) (sym are.plan) own))
  where
    own : IsLeast (DifferInBlock (channel_at side i).coding (plan_in side i f) (sent i f sequence) least.block) least.cells
    own = record { has = is.pair; least = λ m pair. is.none m (record { sequence = sequence; legal = is.legal; pair = record { block = least.block; there = is.there; pair = pair } }) }

-- a code that is found by votes is one for the cells that are sent
pub near_sent : (side : Side) (sent : Copies) (i f : ℕ) (sequence : List ℕ) (votes : List Vote) (sizes : Sizes) (r n : ℕ) (code written : List Bit) → AreSizes side i f sizes → sizes.bits ≤ length votes → AreCounts (sent i f sequence) votes → r < (plan_in side i f).blocks → written ≡ code
    → IsNear sizes.coding sizes.plan (copies_at votes) r n code → IsNear (channel_at side i).coding (plan_in side i f) (sent i f sequence) r n written
near_sent side sent i f sequence votes sizes r n code written are long counts there same near =
    subst (λ (code : List Bit). IsNear (channel_at side i).coding (plan_in side i f) (sent i f sequence) r n code) (sym same)
    (subst (λ (plan : Plan). IsNear (channel_at side i).coding plan (sent i f sequence) r n code) are.plan
    (subst (λ (coding : Coding). IsNear coding sizes.plan (sent i f sequence) r n code) are.coding own))
  where
    own : IsNear sizes.coding sizes.plan (sent i f sequence) r n code
    own = record {
      block = near.block;
      apart = from_zeros_same sizes.coding sizes.plan.size (filler_of sizes.plan r) (block_copies sizes.coding sizes.plan (copies_at votes) r) (block_copies sizes.coding sizes.plan (sent i f sequence) r) n near.block
          (λ t inside. counted side sent i f sequence votes sizes r t are long counts (inside_plan side i f sizes r are there) inside) near.apart;
      coded = near.coded;
    }

-- a code block begins among the coded bits of its TTI
pub begins_inside : (side : Side) (i f : ℕ) (sizes : Sizes) (r : ℕ) → AreSizes side i f sizes → r < (plan_in side i f).blocks → r * coded_block sizes.coding sizes.plan.size ≤ sizes.bits
begins_inside side i f sizes r are there = omega (arith, are.whole, whole_first r sizes.plan.blocks (coded_block sizes.coding sizes.plan.size) (inside_plan side i f sizes r are there))
  where
    whole_first : (r blocks coded : ℕ) → r < blocks → r * coded ≤ blocks * coded
    whole_first r blocks coded there = grind (arith)
