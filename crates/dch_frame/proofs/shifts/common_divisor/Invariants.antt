use Rattle.std.proofs.Common.{◌≡◌}
use Rattle.dch_frame.specs.Shifts.{common_divisor}
use Rattle.dch_frame.proofs.shifts.common_divisor.Given as goal

abbrev pub invariant-loop-divisor : goal.invariant-loop-divisor
invariant-loop-divisor l = common_divisor l.a l.frames l.divisor ≡ common_divisor l.a l.frames l.frames

abbrev pub decreases-loop-divisor : goal.decreases-loop-divisor
decreases-loop-divisor l = l.divisor
