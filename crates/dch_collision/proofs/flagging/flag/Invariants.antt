use Rattle.std.proofs.Common.{◌≡◌}
use Rattle.dch_frame.specs.Patterns.{copies}
use Rattle.dch_collision.proofs.Flags.{AreTold}
use Rattle.dch_collision.proofs.flagging.flag.Given as goal

abbrev pub invariant-loop-m : goal.invariant-loop-m
invariant-loop-m l = (l.walk ≡ record { pattern = l.pattern; bit = l.m }) × AreTold (copies l.pattern.kind) l.sent_flags l.m
