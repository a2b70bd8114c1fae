use Rattle.std.proofs.Common.{◌≡◌, ◌≤◌}
use Rattle.dch_am.specs.Status.{most}
use Rattle.dch_amrecv.proofs.telling.most.Given as goal

abbrev pub decreases-loop-count : goal.decreases-loop-count
decreases-loop-count l = l.count

abbrev pub invariant-loop-count : goal.invariant-loop-count
invariant-loop-count l = (most l.bits l.count ≡ most l.bits l.runs) × (l.count ≤ l.runs)
