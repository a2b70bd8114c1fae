use Rattle.std.proofs.Common.{◌≤◌}
use Rattle.dch_collision.specs.Sequences.{frames_of}
use Rattle.dch_collision.specs.SequenceCounts.{AreWays}
use Rattle.dch_collision.proofs.legal_counting.count.Given as goal

abbrev pub invariant-loop-frame : goal.invariant-loop-frame
invariant-loop-frame l = record {
  some : 1 ≤ l.frame;
  within : l.frame ≤ frames_of l.side l.channel;
  ways : AreWays l.side l.channel l.format l.frame l.ways;
}

abbrev pub decreases-loop-frame : goal.decreases-loop-frame
decreases-loop-frame l = l.frame
