use Rattle.dch_accept.specs.HeldSets.{AreIdleFormats}
use Rattle.dch_accept.proofs.set_blocks.idle_formats.Given as goal

abbrev pub invariant-loop-i : goal.invariant-loop-i
invariant-loop-i l = AreIdleFormats l.side l.set l.i l.idle.items
