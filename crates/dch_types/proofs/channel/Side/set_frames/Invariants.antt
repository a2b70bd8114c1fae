use Rattle.std.proofs.Common.{◌≡◌}
use Rattle.dch_types.specs.Timing.{frames_among}
use Rattle.dch_types.proofs.channel.Side.set_frames.Given as goal

abbrev pub invariant-loop-i : goal.invariant-loop-i
invariant-loop-i l = l.frames ≡ frames_among l.self l.set l.i
