use Rattle.std.proofs.Common.{length, arith}
use Rattle.dch_frame.proofs.Codes.{back_more}
use Rattle.dch_inter.proofs.Rows.{second_back_of-below}
use Rattle.dch_frame.proofs.interleaver.scatter.Goals as goal

pub loop-k-preserved : goal.loop-k-preserved
loop-k-preserved g c = back_more (length c.args.places.now) c.args.cells.now c.loop-k.out c.loop-k.k c.place.result c.index-cells-k.result (omega arith) c.requires.cells (omega arith) c.place.ensures.value c.index-cells-k.is c.loop-k.invariant

pub returns : goal.returns
returns g c p d inside = c.loop-k.invariant p d (omega arith) (omega (arith, second_back_of-below (length c.args.places.now) p))
