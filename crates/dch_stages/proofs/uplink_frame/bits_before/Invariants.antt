use Rattle.std.proofs.Common.{◌≡◌}
use Rattle.dch_ulphy.specs.Frames.{bits_before}
use Rattle.dch_stages.proofs.uplink_frame.bits_before.Given as goal

abbrev pub invariant-loop-before : goal.invariant-loop-before
invariant-loop-before l = l.bits ≡ bits_before l.plan l.before
