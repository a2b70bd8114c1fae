use Rattle.std.proofs.Common.{◌≡◌, ◌≤◌, ◌+◌, ◌-◌, ◌*◌}
use Rattle.dch_frame.proofs.walk.repeated.Given as goal

abbrev pub invariant-loop-after : goal.invariant-loop-after
invariant-loop-after l = (l.after ≡ l.counter + l.added * l.steps.e_plus) × (l.after ≤ l.steps.e_minus + l.steps.e_plus)

abbrev pub decreases-loop-after : goal.decreases-loop-after
decreases-loop-after l = l.steps.e_minus + 1 - l.after
