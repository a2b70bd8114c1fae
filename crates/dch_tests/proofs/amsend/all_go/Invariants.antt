use Rattle.std.proofs.Common.{◌≡◌}
use Rattle.dch_tests.proofs.amsend.all_go.Given as goal

abbrev pub invariant-loop-step : goal.invariant-loop-step
invariant-loop-step l = l.sender.outgoing.size ≡ 18
