use Rattle.std.proofs.Common.{◌≡◌, ◌+◌, ◌≤◌, take}
use Rattle.dch_iub.specs.Shape.{number_place}
use Rattle.dch_iub.specs.Steps.{AreNamed}
use Rattle.dch_iub.proofs.header.write_numbers.Given as goal

abbrev pub invariant-loop-i : goal.invariant-loop-i
invariant-loop-i l = record {
  place : l.at ≡ number_place l.side l.set l.i;
  few : l.at ≤ 2 + l.i;
  named : AreNamed l.side l.set l.out l.numbers l.i;
  before : take 2 l.out ≡ take 2 l.fn.out;
}
