use Rattle.std.proofs.Common.{◌≡◌, ◌+◌, ℕ}
use Rattle.dch_accept.specs.HeldSets.{held_at}
use Rattle.dch_iub.specs.Shape.{marks_before}
use Rattle.dch_iub.specs.Taken.{AreMarksTaken, IsKept, IsMarkedAs}
use Rattle.dch_iub.proofs.take.take_marks.Given as goal

abbrev pub invariant-loop-i : goal.invariant-loop-i
invariant-loop-i l = record {
  place : l.bit ≡ l.first + marks_before l.side l.set l.numbers l.i;
  marked : AreMarksTaken l.side l.set l.frame l.first l.numbers l.out l.i;
  same : (j : ℕ) → IsMarkedAs (held_at l.fn.out.blocks j) (held_at l.out.blocks j);
  kept : IsKept l.fn.out l.out;
}
