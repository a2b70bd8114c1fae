use Rattle.std.proofs.Common.{◌≡◌}
use Rattle.dch_frame.specs.Patterns.{copies}
use Rattle.dch_margin.proofs.Counts.{AreFirstCounts}
use Rattle.dch_margin.proofs.counting.count.Given as goal

abbrev pub invariant-loop-m : goal.invariant-loop-m
invariant-loop-m l = (l.walk ≡ record { pattern = l.pattern; bit = l.m }) × AreFirstCounts (copies l.pattern.kind) l.votes l.m
