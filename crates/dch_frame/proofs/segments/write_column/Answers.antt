use Rattle.std.proofs.Common.{length, refl, arith}
use Rattle.dch_frame.proofs.Carried.{put_more, put_all}
use Rattle.dch_frame.proofs.segments.write_column.Goals as goal

pub loop-m-preserved : goal.loop-m-preserved
loop-m-preserved g c = put_more c.args.frames c.args.frame (length c.args.segment.now) c.loop-m.m c.column-column.result c.args.segment.now c.args.tti.now c.loop-m.tti c.index-segment-m.result c.requires.frames (omega arith) c.requires.inside c.requires.whole refl (omega arith) c.column-column.ensures.value c.column-column.ensures.inside (omega arith) c.index-segment-m.is c.loop-m.invariant

pub returns-clause-carried : goal.returns-clause-carried
returns-clause-carried g c = put_all c.args.frames c.args.frame (length c.args.segment.now) c.loop-m.m c.args.segment.now c.args.tti.now c.loop-m.tti c.requires.frames (omega arith) c.requires.whole (omega arith) (omega arith) c.loop-m.invariant
