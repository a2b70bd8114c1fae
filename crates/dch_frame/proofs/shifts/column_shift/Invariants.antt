use Rattle.std.proofs.Common.{◌≢◌, ◌<◌, ◌%◌, ℕ}
use Rattle.dch_frame.specs.Shifts.{q_multiple}
use Rattle.dch_frame.proofs.shifts.column_shift.Given as goal

abbrev pub invariant-loop-x : goal.invariant-loop-x
invariant-loop-x l = (y : ℕ) → y < l.x → q_multiple l.q l.frames y % l.frames ≢ l.column
