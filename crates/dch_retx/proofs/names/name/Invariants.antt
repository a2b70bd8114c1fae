use Rattle.std.proofs.Common.{length}
use Rattle.dch_retx.specs.StatusItems.{said_by}
use Rattle.dch_retx.proofs.Fields.{IsNaming}
use Rattle.dch_retx.proofs.names.name.Given as goal

abbrev pub decreases-loop-cursor : goal.decreases-loop-cursor
decreases-loop-cursor l = length l.cursor

abbrev pub invariant-loop-cursor : goal.invariant-loop-cursor
invariant-loop-cursor l = IsNaming l.naming.first l.naming.polled l.naming.from l.naming.to (said_by l.fn.status) (said_by l.cursor) l.named l.fn.flight l.flight
