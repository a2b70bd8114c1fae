use Rattle.std.proofs.Common.{◌≡◌}
use Rattle.dch_collision.specs.Counted.{removes_below}
use Rattle.dch_collision.proofs.puncturing.uplink_punctures.Given as goal

abbrev pub invariant-loop-c : goal.invariant-loop-c
invariant-loop-c l = l.punctures ≡ removes_below l.config l.i l.f l.c
