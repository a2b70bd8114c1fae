use Rattle.std.proofs.Common.{◌≡◌}
use Rattle.dch_iub.specs.Shape.{marks_before}
use Rattle.dch_iub.specs.Steps.{AreCollected}
use Rattle.dch_iub.proofs.blocks.list_marks.Given as goal

abbrev pub invariant-loop-i : goal.invariant-loop-i
invariant-loop-i l = record {
  place : l.at ≡ marks_before l.side l.set l.numbers l.i;
  collected : AreCollected l.side l.set l.out l.numbers l.blocks l.i;
}
