use Rattle.std.proofs.Common.{◌+◌, ◌-◌}
use Rattle.std.specs.Prelude.{map}
use Rattle.dch_am.specs.Numbers.{range}
use Rattle.dch_retx.specs.StatusItems.{missing_of}
use Rattle.dch_retx.proofs.Fields.{IsNaming}
use Rattle.dch_retx.proofs.names.name_run.Given as goal

abbrev pub invariant-loop-k : goal.invariant-loop-k
invariant-loop-k l = IsNaming l.naming.first l.naming.polled l.naming.from l.naming.to (map missing_of (range l.first (l.more + 1))) (map missing_of (range (l.first + l.k) (l.more + 1 - l.k))) l.named l.fn.flight l.flight
