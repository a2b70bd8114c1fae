use Rattle.std.proofs.Common.{◌≡◌, ◌<◌, ℕ, length, get_or}
use Rattle.dch_collision.specs.SequenceCounts.{ways_on}
use Rattle.dch_collision.proofs.legal_counting.ways_before.Given as goal

abbrev pub invariant-loop-previous : goal.invariant-loop-previous
invariant-loop-previous l = record {
  length : length l.ways ≡ 128;
  ways : (c : ℕ) → c < l.previous → get_or l.ways c 0 ≡ ways_on l.side l.channel l.format l.frame c;
}
