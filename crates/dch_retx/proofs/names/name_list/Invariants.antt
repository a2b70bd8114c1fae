use Rattle.std.proofs.Common.{drop}
use Rattle.std.specs.Prelude.{map}
use Rattle.dch_rlcpdu.specs.Fields.{pairs_of}
use Rattle.dch_am.specs.Names.{named}
use Rattle.dch_retx.specs.StatusItems.{first_of, missing_of}
use Rattle.dch_retx.proofs.Fields.{IsNaming}
use Rattle.dch_retx.proofs.names.name_list.Given as goal

abbrev pub invariant-loop-j : goal.invariant-loop-j
invariant-loop-j l = IsNaming l.naming.first l.naming.polled l.naming.from l.naming.to (map missing_of (named (pairs_of (first_of l.cursor)))) (map missing_of (named (drop l.j (pairs_of (first_of l.cursor))))) l.named l.fn.flight l.flight
