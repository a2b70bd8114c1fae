use Rattle.std.proofs.Common.{◌≡◌}
use Rattle.dch_tests.proofs.rlcum.come_back.Given as goal

abbrev pub invariant-loop : goal.invariant-loop
invariant-loop l = l.sender.pdu ≡ 33
