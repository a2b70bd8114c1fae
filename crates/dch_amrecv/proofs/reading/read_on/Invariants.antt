use Rattle.std.proofs.Common.{◌≡◌, ◌-◌}
use Rattle.dch_amrecv.proofs.Ordered.{Same}
use Rattle.dch_amrecv.proofs.reading.read_on.Given as goal

abbrev pub invariant-loop-done : goal.invariant-loop-done
invariant-loop-done l = Same l.todo l.fn.window.ring l.fn.trim l.fn.units (l.todo - l.done) l.window.ring l.next l.units × (l.window.pdu ≡ l.fn.window.pdu)
