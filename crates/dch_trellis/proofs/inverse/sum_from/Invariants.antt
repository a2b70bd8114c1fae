use Rattle.std.proofs.Common.{◌≡◌, ◌≤◌, take, sum_by}
use Rattle.dch_trellis.specs.Inverse.{bit_from}
use Rattle.dch_trellis.proofs.inverse.sum_from.Given as goal

abbrev pub invariant-loop-d : goal.invariant-loop-d
invariant-loop-d l = record {
  summed : l.sum ≡ sum_by (bit_from l.bits l.from) (take l.d-index l.distances);
  small : l.sum ≤ l.d-index;
}
