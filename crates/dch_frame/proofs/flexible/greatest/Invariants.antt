use Rattle.std.proofs.Common.{◌≡◌, ◌<◌, ◌^◌}
use Rattle.dch_frame.specs.Downlinks.{greatest_below}
use Rattle.dch_frame.proofs.flexible.greatest.Given as goal

abbrev pub invariant-loop-c : goal.invariant-loop-c
invariant-loop-c l = (l.most ≡ greatest_below l.side l.c) × (l.most < 2 ^ 32)
