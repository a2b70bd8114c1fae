use Rattle.std.proofs.Common.{◌≡◌, length}
use Rattle.dch_tests.proofs.rlcum.all_go.Given as goal

abbrev pub invariant-loop-step : goal.invariant-loop-step
invariant-loop-step l = length l.out ≡ l.sender.pdu
