use Rattle.std.proofs.Common.{◌≡◌, take}
use Rattle.dch_iub.specs.Shape.{blocks_place}
use Rattle.dch_iub.specs.Steps.{AreWritten}
use Rattle.dch_iub.proofs.blocks.write_blocks.Given as goal

abbrev pub invariant-loop-i : goal.invariant-loop-i
invariant-loop-i l = record {
  place : l.at ≡ blocks_place l.side l.set l.numbers l.i;
  written : AreWritten l.side l.set l.out l.numbers l.blocks l.i;
  before : take l.header l.out ≡ take l.header l.fn.out;
}
