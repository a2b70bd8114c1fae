use Rattle.std.proofs.Common.{◌≡◌, drop}
use Rattle.std.specs.Prelude.{map}
use Rattle.dch_rlcpdu.specs.Fields.{pairs_of}
use Rattle.dch_am.specs.Names.{named}
use Rattle.dch_retx.specs.StatusItems.{first_of, missing_of}
use Rattle.dch_retx.specs.StatusItem.{first_outside}
use Rattle.dch_retx.proofs.hear.outside_list.Given as goal

abbrev pub invariant-loop-j : goal.invariant-loop-j
invariant-loop-j l = first_outside l.sent.window l.sent.first l.sent.count (map missing_of (named (pairs_of (first_of l.cursor)))) ≡ first_outside l.sent.window l.sent.first l.sent.count (map missing_of (named (drop l.j (pairs_of (first_of l.cursor)))))
