use Rattle.std.proofs.Common.{◌↔◌, ◌-◌, length}
use Rattle.dch_link.specs.Checks.{IsSublist, good_from}
use Rattle.dch_link.specs.Comparing.{IsNextGood, blocks_from}
use Rattle.dch_link.proofs.check.are_some.Given as goal

-- the good blocks from block i on are some of those from block k on exactly where all are some of all
abbrev pub invariant-given : goal.invariant-given
invariant-given l = (IsNextGood l.taken l.i l.i) × (IsSublist (good_from l.taken 0 (length l.taken.good)) (blocks_from l.given 0 l.count) ↔ IsSublist (good_from l.taken l.i (length l.taken.good - l.i)) (blocks_from l.given l.k (l.count - l.k)))
