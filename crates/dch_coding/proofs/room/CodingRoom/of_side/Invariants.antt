use Rattle.std.proofs.Common.{◌≡◌}
use Rattle.dch_coding.specs.Rooms.{channels_room}
use Rattle.dch_coding.proofs.room.CodingRoom.of_side.Given as goal

abbrev pub invariant-loop-i : goal.invariant-loop-i
invariant-loop-i l = l.room ≡ channels_room l.side l.i
