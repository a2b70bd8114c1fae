use Rattle.std.proofs.Common.{◌≡◌}
use Rattle.dch_tests.proofs.amrecv.units_of.Given as goal

abbrev pub invariant-loop-p : goal.invariant-loop-p
invariant-loop-p l = l.receiver.pdu ≡ 18
