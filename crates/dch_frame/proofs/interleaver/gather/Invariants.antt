use Rattle.std.proofs.Common.{length}
use Rattle.dch_inter.specs.Places.{second_of}
use Rattle.dch_frame.proofs.Codes.{ShowBelow}
use Rattle.dch_frame.proofs.interleaver.gather.Given as goal

abbrev pub invariant-loop-k : goal.invariant-loop-k
invariant-loop-k g l = ShowBelow (second_of (length l.places)) l.from l.out l.k
