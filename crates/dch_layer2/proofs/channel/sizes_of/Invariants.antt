use Rattle.std.proofs.Common.{◌≡◌, ◌++◌, drop}
use Rattle.dch_layer2.specs.Bearings.{sizes_in}
use Rattle.dch_layer2.proofs.channel.sizes_of.Given as goal

abbrev pub invariant-loop-format : goal.invariant-loop-format
invariant-loop-format l = l.sizes ++ sizes_in (drop l.format-index l.formats) ≡ sizes_in l.formats
