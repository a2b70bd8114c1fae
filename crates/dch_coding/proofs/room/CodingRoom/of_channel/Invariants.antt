use Rattle.std.proofs.Common.{◌≡◌}
use Rattle.dch_coding.specs.Rooms.{formats_room}
use Rattle.dch_coding.proofs.room.CodingRoom.of_channel.Given as goal

abbrev pub invariant-loop-f : goal.invariant-loop-f
invariant-loop-f l = l.room ≡ formats_room l.channel l.f
