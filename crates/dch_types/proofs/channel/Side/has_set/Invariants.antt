use Rattle.std.proofs.Common.{◌≡◌}
use Rattle.dch_types.specs.Timing.{is_set_among}
use Rattle.dch_types.proofs.channel.Side.has_set.Given as goal

abbrev pub invariant-loop-i : goal.invariant-loop-i
invariant-loop-i l = l.found ≡ is_set_among l.self l.set l.i
