use Rattle.std.proofs.Common.{drop}
use Rattle.dch_amrecv.proofs.missing_runs.write_missing_runs.Given as goal
use Rattle.dch_amrecv.proofs.Finding.{Found}

abbrev pub invariant-loop-i : goal.invariant-loop-i
invariant-loop-i l = Found (drop l.from l.ring.items) l.fn.out l.out l.i l.count l.first l.more
