use Rattle.std.proofs.Common.{◌≡◌, ◌+◌, ◌≤◌, drop}
use Rattle.std.specs.Prelude.{min}
use Rattle.dch_rlcpdu.specs.Fields.{bits_of}
use Rattle.dch_retx.specs.StatusItems.{bits_from, first_of}
use Rattle.dch_retx.specs.StatusItem.{limit_in}
use Rattle.dch_retx.proofs.tell.limit_bits.Given as goal

abbrev pub invariant-loop-j : goal.invariant-loop-j
invariant-loop-j l = record {
  so_far : limit_in l.sent.window l.sent.first l.sent.count (bits_from l.first (bits_of (first_of l.cursor))) ≡ min l.limit (limit_in l.sent.window l.sent.first l.sent.count (bits_from (l.first + l.j) (drop l.j (bits_of (first_of l.cursor)))));
  small : l.limit ≤ 4097;
}
