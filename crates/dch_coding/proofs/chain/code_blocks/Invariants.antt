use Rattle.std.proofs.Common.{◌≡◌, ◌*◌, List, take}
use Rattle.dch_bits.specs.declared.bit.Bit.{Bit}
use Rattle.dch_coding.specs.Chain.{coded_blocks}
use Rattle.dch_coding.specs.Cuts.{HoldsBlocks}
use Rattle.dch_coding.proofs.chain.code_blocks.Given as goal

abbrev pub invariant-loop-r : goal.invariant-loop-r
invariant-loop-r l = (joined : List Bit) → HoldsBlocks l.plan joined l.blocks → take (l.r * l.coded) l.out ≡ coded_blocks l.coding l.plan joined l.r
