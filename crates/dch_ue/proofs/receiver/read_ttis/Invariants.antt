use Rattle.std.proofs.Common.{◌≡◌}
use Rattle.dch_ue.specs.Moves.{AreReadTo}
use Rattle.dch_ue.proofs.receiver.read_ttis.Given as goal

abbrev pub invariant-loop-i : goal.invariant-loop-i
invariant-loop-i l = record {
  read : AreReadTo l.accepted l.fn.reader l.i l.ttis;
  kept : l.reader ≡ l.fn.reader;
}
