use Rattle.std.proofs.Common.{◌<◌, ◌^◌}
use Rattle.dch_accept.specs.Blocks.{HoldsFormats}
use Rattle.dch_accept.proofs.blocks.most_of_channel.Given as goal

abbrev pub invariant-loop-f : goal.invariant-loop-f
invariant-loop-f l = record { holds : HoldsFormats l.channel l.f l.most; small : l.most < 2 ^ 32 }
