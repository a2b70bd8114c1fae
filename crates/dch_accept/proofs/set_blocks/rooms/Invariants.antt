use Rattle.dch_accept.specs.HeldSets.{AreRooms}
use Rattle.dch_accept.proofs.set_blocks.rooms.Given as goal

abbrev pub invariant-loop-i : goal.invariant-loop-i
invariant-loop-i l = AreRooms l.side l.set l.i l.blocks.items
