use Rattle.std.proofs.Common.{◌≡◌, ◌-◌, ◌≤◌, length}
use Rattle.dch_amsend.specs.Scanning.{found_from, overdue}
use Rattle.dch_amsend.proofs.pass.last_from.Given as goal

abbrev pub invariant-loop-place : goal.invariant-loop-place
invariant-loop-place l = (l.place ≤ length l.outgoing.line.in_flight) × (found_from l.rules l.held l.place l.outgoing.line.in_flight l.scan ≡ overdue l.rules l.held l.outgoing.line.in_flight)

abbrev pub decreases-loop-place : goal.decreases-loop-place
decreases-loop-place l = length l.outgoing.line.in_flight - l.place
