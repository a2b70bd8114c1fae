use Rattle.std.proofs.Common.{◌*◌}
use Rattle.dch_trellis.specs.Inverse.{AreMajorities}
use Rattle.dch_trellis.proofs.inverse.majorities.Given as goal

abbrev pub invariant-loop-c : goal.invariant-loop-c
invariant-loop-c l = AreMajorities (16 * l.c) l.votes l.bits

abbrev pub invariant-loop-j : goal.invariant-loop-j
invariant-loop-j l = AreMajorities l.j l.votes l.bits
