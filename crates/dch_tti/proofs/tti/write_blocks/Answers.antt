use Rattle.std.proofs.Common.{◌≡◌, ◌+◌, ◌-◌, ◌*◌, ◌≤◌, ℕ, List, length, take, arith, below_more, ◌∙◌}
use borrow.Rule.Slice.PartMut.{put_mid}
use Rattle.dch_bits.specs.declared.bit.Bit.{Bit}
use Rattle.dch_types.specs.Lengths.{crc_size}
use Rattle.dch_coding.specs.Ttis.{part}
use Rattle.dch_tti.proofs.Parts.{part_fits, part-put_here, part-put_earlier, length_slice}
use Rattle.dch_tti.proofs.tti.write_blocks.Goals as goal

pub loop-i-preserved : goal.loop-i-preserved
loop-i-preserved c =
    let size : ℕ = c.args.size in
    let w : ℕ = crc_size c.args.crc in
    let joined : List Bit = c.args.joined.now in
    let out : List Bit = c.loop-i.out in
    let new : List Bit = c.copy_from_slice.new.self in
    let i : ℕ = c.loop-i.i in
    let k : ℕ = i * size + size - i * size in
    let room : i * size + size ≤ length out = omega (arith, c.loop-i.auto.out, c.requires.room, part_fits c.args.count size i (omega arith)) in
    let long : length new ≡ size = c.copy_from_slice.ensures.len ∙ length_slice out (i * size) size room in
    below_more (λ q. part q size (put_mid (i * size) k out new) ≡ take size (part q (size + w) joined)) i
    (λ q early. part-put_earlier out new size i q k early (omega (arith, room)) ∙ c.loop-i.invariant q early)
    (part-put_here out new size i k (omega (arith, room)) long ∙ c.copy_from_slice.ensures.after ∙ c.received.ensures.bits)
