use Rattle.std.proofs.Common.{◌≡◌, ◌+◌, drop}
use Rattle.dch_rlcpdu.specs.Fields.{bits_of}
use Rattle.dch_retx.specs.StatusItems.{bits_from, first_of}
use Rattle.dch_retx.specs.StatusItem.{first_outside}
use Rattle.dch_retx.proofs.hear.outside_bits.Given as goal

abbrev pub invariant-loop-j : goal.invariant-loop-j
invariant-loop-j l = first_outside l.sent.window l.sent.first l.sent.count (bits_from l.first (bits_of (first_of l.cursor))) ≡ first_outside l.sent.window l.sent.first l.sent.count (bits_from (l.first + l.j) (drop l.j (bits_of (first_of l.cursor))))
