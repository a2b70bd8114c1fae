use Rattle.std.proofs.Common.{◌≡◌, length}
use Rattle.dch_retx.specs.StatusItems.{said_by}
use Rattle.dch_retx.specs.StatusItem.{first_outside}
use Rattle.dch_retx.proofs.hear.outside.Given as goal

abbrev pub decreases-loop-cursor : goal.decreases-loop-cursor
decreases-loop-cursor l = length l.cursor

abbrev pub invariant-loop-cursor : goal.invariant-loop-cursor
invariant-loop-cursor l = first_outside l.sent.window l.sent.first l.sent.count (said_by l.fn.status) ≡ first_outside l.sent.window l.sent.first l.sent.count (said_by l.cursor)
