use Rattle.std.proofs.Common.{◌≡◌, take}
use Rattle.dch_iub.specs.Steps.{ArePacked}
use Rattle.dch_iub.proofs.blocks.write_tti.Given as goal

abbrev pub invariant-loop-b : goal.invariant-loop-b
invariant-loop-b l = record {
  packed : ArePacked l.out l.at l.b l.blocks;
  before : take l.at l.out ≡ take l.at l.fn.out;
}
