use Rattle.std.proofs.Common.{◌+◌}
use Rattle.dch_trellis.specs.Inverse.{AreMajorities}
use Rattle.dch_trellis.proofs.inverse.some_majorities.Given as goal

abbrev pub invariant-loop-j : goal.invariant-loop-j
invariant-loop-j l = AreMajorities l.from l.votes l.fn.bits → AreMajorities (l.from + l.j) l.votes l.bits
