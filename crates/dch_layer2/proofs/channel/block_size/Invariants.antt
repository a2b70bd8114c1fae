use Rattle.std.proofs.Common.{◌≡◌, drop}
use Rattle.dch_layer2.specs.Bearings.{size_in}
use Rattle.dch_layer2.proofs.channel.block_size.Given as goal

abbrev pub invariant-loop-format : goal.invariant-loop-format
invariant-loop-format l = size_in l.formats ≡ size_in (drop l.format-index l.formats)
