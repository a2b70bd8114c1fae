use Rattle.std.proofs.Common.{◌≡◌, ◌+◌, ◌-◌, ◌<◌, ◌++◌, length, take}
use Rattle.dch_trellis.specs.Search.{branch_metric, is_free, trace}
use Rattle.dch_trellis.proofs.tiny.trace.Given as goal

abbrev pub invariant-loop-k : goal.invariant-loop-k
invariant-loop-k l = record {
  small : l.state < 256;
  written : trace (branch_metric l.rate l.votes) (is_free (length l.fn.out) l.filler) (length l.fn.out + 8) 0 0 ≡ take l.k l.out ++ trace (branch_metric l.rate l.votes) (is_free (length l.fn.out) l.filler) (length l.fn.out + 8 - l.k) l.k l.state;
}
