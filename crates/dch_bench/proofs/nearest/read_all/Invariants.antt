use Rattle.std.proofs.Common.{◌≡◌}
use Rattle.dch_bench.proofs.nearest.read_all.Given as goal

abbrev pub invariant-loop-block : goal.invariant-loop-block
invariant-loop-block l = l.trellis ≡ 504
