use Rattle.std.proofs.Common.{◌≡◌, ◌+◌, ◌≤◌}
use Rattle.dch_iub.specs.Shape.{number_place}
use Rattle.dch_iub.proofs.judge.header_octets.Given as goal

abbrev pub invariant-loop-i : goal.invariant-loop-i
invariant-loop-i l = record {
  place : l.header ≡ number_place l.side l.set l.i;
  few : l.header ≤ 2 + l.i;
}
