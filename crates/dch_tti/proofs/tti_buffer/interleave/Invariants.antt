use Rattle.std.proofs.Common.{◌*◌, length}
use Rattle.dch_tti.proofs.Segments.{ShowTti}
use Rattle.dch_tti.proofs.tti_buffer.interleave.Given as goal

abbrev pub invariant-loop-n : goal.invariant-loop-n
invariant-loop-n l = ShowTti l.frames (length l.tti) l.tti l.out (l.n * l.rows)
