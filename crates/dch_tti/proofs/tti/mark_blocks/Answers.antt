use Rattle.std.proofs.Common.{◌+◌, length, arith}
use Rattle.dch_types.specs.Lengths.{crc_size}
use Rattle.dch_tti.proofs.Parts.{part_fits}
use Rattle.dch_tti.proofs.Marks.{marked_more}
use Rattle.dch_tti.proofs.tti.mark_blocks.Goals as goal

pub received-requires : goal.received-requires
received-requires c = omega (arith, c.requires.joined, part_fits (length c.args.out.now.good) (c.args.size + crc_size c.args.crc) c.loop-i.i (omega arith))

pub loop-i-preserved : goal.loop-i-preserved
loop-i-preserved c = marked_more c.args.crc c.args.size c.args.joined.now c.args.out.now c.loop-i.out c.mark.new.self c.loop-i.i c.received.result.good c.received.result.bits.now c.loop-i.invariant (omega arith) c.mark.ensures c.received.ensures.bits c.received.ensures.good
