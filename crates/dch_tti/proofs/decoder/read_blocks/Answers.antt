use Rattle.std.proofs.Common.{◌≡◌, ◌+◌, ◌-◌, ◌*◌, ◌≤◌, ℕ, List, length, arith, below_more, ◌∙◌}
use borrow.Rule.Slice.PartMut.{put_mid}
use Rattle.dch_bits.specs.declared.bit.Bit.{Bit}
use Rattle.dch_bits.specs.declared.bit.Vote.{Vote}
use Rattle.dch_types.specs.declared.channel.Coding.{Coding}
use Rattle.dch_coding.specs.declared.cut.Plan.{Plan}
use Rattle.dch_coding.specs.Ttis.{part}
use Rattle.dch_coding.specs.Segments.{filler_of}
use Rattle.dch_tti.specs.JoinedBits.{IsRead}
use Rattle.dch_tti.proofs.Parts.{part_fits, length_slice}
use Rattle.dch_tti.proofs.Blocks.{read_here, read_earlier}
use Rattle.dch_tti.proofs.decoder.read_blocks.Goals as goal

pub loop-r-preserved : goal.loop-r-preserved
loop-r-preserved c =
    let coding : Coding = c.args.coding in
    let plan : Plan = c.args.plan.now in
    let votes : List Vote = c.args.votes.now in
    let blocks : List Bit = c.loop-r.blocks in
    let new : List Bit = c.read_block.new.out in
    let r : ℕ = c.loop-r.r in
    let len : ℕ = c.coded_block-coded.result in
    let k : ℕ = r * plan.size + plan.size - r * plan.size in
    let room : r * plan.size + plan.size ≤ length blocks = omega (arith, c.loop-r.auto.blocks, c.requires.blocks, part_fits plan.blocks plan.size r (omega arith)) in
    let long : length new ≡ plan.size = c.read_block.auto.out ∙ length_slice blocks (r * plan.size) plan.size room in (
      c.read_block.ensures.kept ∙ c.loop-r.invariant.0,
      below_more (λ q. IsRead coding (part q len votes) (filler_of plan q) (part q plan.size (put_mid (r * plan.size) k blocks new))) r
          (λ q early. read_earlier coding plan votes blocks new r q len k early (omega (arith, room)) (c.loop-r.invariant.1 q early))
          (read_here coding plan votes blocks new r len c.filler_of.result (r * len + len - r * len) k (omega (arith, room)) (omega arith) c.filler_of.ensures long c.read_block.ensures.read),
    )
