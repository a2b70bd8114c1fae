use Rattle.std.proofs.Common.{◌≡◌}
use Rattle.dch_iub.specs.Shape.{blocks_place}
use Rattle.dch_iub.specs.Taken.{AreAllGood, AreTaken, IsKept}
use Rattle.dch_iub.proofs.take.take_blocks.Given as goal

abbrev pub invariant-loop-i : goal.invariant-loop-i
invariant-loop-i l = record {
  place : l.at ≡ blocks_place l.side l.set l.numbers l.i;
  taken : AreTaken l.side l.set l.frame l.numbers l.out l.i;
  good : AreAllGood l.side l.set l.out l.i;
  kept : IsKept l.fn.out l.out;
}
