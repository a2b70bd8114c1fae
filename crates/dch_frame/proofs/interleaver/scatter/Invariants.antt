use Rattle.std.proofs.Common.{length}
use Rattle.dch_frame.proofs.Codes.{BackBelow}
use Rattle.dch_frame.proofs.interleaver.scatter.Given as goal

abbrev pub invariant-loop-k : goal.invariant-loop-k
invariant-loop-k g l = BackBelow (length l.places) l.cells l.out l.k
