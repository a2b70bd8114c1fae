use Rattle.std.proofs.Common.{◌+◌, drop}
use Rattle.dch_rlcpdu.specs.Fields.{bits_of}
use Rattle.dch_retx.specs.StatusItems.{bits_from, first_of}
use Rattle.dch_retx.proofs.Fields.{IsNaming}
use Rattle.dch_retx.proofs.names.name_bits.Given as goal

abbrev pub invariant-loop-j : goal.invariant-loop-j
invariant-loop-j l = IsNaming l.naming.first l.naming.polled l.naming.from l.naming.to (bits_from l.first (bits_of (first_of l.cursor))) (bits_from (l.first + l.j) (drop l.j (bits_of (first_of l.cursor)))) l.named l.fn.flight l.flight
