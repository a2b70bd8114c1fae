use Rattle.dch_amsend.specs.Standing.{IsSame}
use Rattle.dch_tests.proofs.amsend.wait.Given as goal

abbrev pub invariant-loop : goal.invariant-loop
invariant-loop l = IsSame l.fn.sender l.sender
