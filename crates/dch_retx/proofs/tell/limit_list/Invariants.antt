use Rattle.std.proofs.Common.{◌≡◌, ◌≤◌, drop}
use Rattle.std.specs.Prelude.{map, min}
use Rattle.dch_rlcpdu.specs.Fields.{pairs_of}
use Rattle.dch_am.specs.Names.{named}
use Rattle.dch_retx.specs.StatusItems.{first_of, missing_of}
use Rattle.dch_retx.specs.StatusItem.{limit_in}
use Rattle.dch_retx.proofs.tell.limit_list.Given as goal

abbrev pub invariant-loop-j : goal.invariant-loop-j
invariant-loop-j l = record {
  so_far : limit_in l.sent.window l.sent.first l.sent.count (map missing_of (named (pairs_of (first_of l.cursor)))) ≡ min l.limit (limit_in l.sent.window l.sent.first l.sent.count (map missing_of (named (drop l.j (pairs_of (first_of l.cursor))))));
  small : l.limit ≤ 4097;
}
