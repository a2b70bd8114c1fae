use Rattle.std.proofs.Common.{◌≡◌}
use Rattle.std.specs.Prelude.{slice_index}
use Rattle.dch_types.specs.Sums.{total}
use Rattle.dch_margin.proofs.carrier.before_up.Given as goal

abbrev pub invariant-loop-j : goal.invariant-loop-j
invariant-loop-j l = l.before ≡ total (slice_index l.plan.sent) l.j
