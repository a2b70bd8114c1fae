use Rattle.std.proofs.Common.{◌≡◌, ◌≤◌, ◌*◌}
use Rattle.dch_types.specs.Sums.{total}
use Rattle.dch_collision.specs.SequenceCounts.{ways_with}
use Rattle.dch_collision.proofs.legal_counting.sum.Given as goal

abbrev pub invariant-loop-combination : goal.invariant-loop-combination
invariant-loop-combination l = record {
  sum : l.sum ≡ total (ways_with l.side l.channel l.format l.frame l.previous) l.combination;
  small : l.sum ≤ l.combination * 562949953421312;
}
