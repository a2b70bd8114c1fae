use Rattle.std.proofs.Common.{◌≡◌}
use Rattle.dch_frame.specs.Downlinks.{stands_below}
use Rattle.dch_frame.proofs.flexible.is_used.Given as goal

abbrev pub invariant-loop-c : goal.invariant-loop-c
invariant-loop-c l = l.found ≡ stands_below l.side l.i l.f l.c
