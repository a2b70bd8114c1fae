use Rattle.dch_trellis.specs.Distance.{AreOfZeros}
use Rattle.dch_tests.proofs.trellis.zeros_of.Given as goal

abbrev pub invariant-loop-i : goal.invariant-loop-i
invariant-loop-i l = AreOfZeros l.votes
