use Rattle.std.proofs.Common.{◌<◌, ◌^◌}
use Rattle.dch_accept.specs.Blocks.{HoldsChannels}
use Rattle.dch_accept.proofs.blocks.most_bits.Given as goal

abbrev pub invariant-loop-i : goal.invariant-loop-i
invariant-loop-i l = record { holds : HoldsChannels l.side l.i l.most; small : l.most < 2 ^ 32 }
