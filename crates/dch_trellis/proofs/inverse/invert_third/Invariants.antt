use Rattle.std.proofs.Common.{◌*◌}
use Rattle.dch_coding.specs.declared.rate.Rate.TheVariants.{Third}
use Rattle.dch_trellis.specs.Inverse.{AreInverse}
use Rattle.dch_trellis.proofs.inverse.invert_third.Given as goal

abbrev pub invariant-loop-c : goal.invariant-loop-c
invariant-loop-c l = AreInverse Third (16 * l.c) l.coded l.block

abbrev pub invariant-loop-k : goal.invariant-loop-k
invariant-loop-k l = AreInverse Third l.k l.coded l.block
