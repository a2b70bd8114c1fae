use Rattle.std.proofs.Common.{◌≡◌, ◌≤◌}
use Rattle.dch_frame.specs.Downlinks.{most_below}
use Rattle.dch_frame.proofs.fixed.most_of.Given as goal

abbrev pub invariant-loop-f : goal.invariant-loop-f
invariant-loop-f l = (l.most ≡ most_below l.channel l.f) × (l.most ≤ 131072)
