use Rattle.std.proofs.Common.{◌<◌}
use Rattle.dch_trellis.specs.Undamaged.{CostsFewest}
use Rattle.dch_trellis.proofs.undamaged.fits_tail.Given as goal

abbrev pub invariant-loop-k : goal.invariant-loop-k
invariant-loop-k l = record {
  small : l.state < 256;
  costs : CostsFewest l.rate l.votes l.size l.k l.state → CostsFewest l.rate l.votes l.size l.size l.fn.state;
}
