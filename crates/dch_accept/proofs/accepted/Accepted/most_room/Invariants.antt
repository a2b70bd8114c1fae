use Rattle.std.proofs.Common.{◌≡◌}
use Rattle.dch_accept.specs.Rooms.{rooms_below}
use Rattle.dch_accept.proofs.accepted.Accepted.most_room.Given as goal

abbrev pub invariant-loop-i : goal.invariant-loop-i
invariant-loop-i l = l.room ≡ rooms_below l.self l.dir l.i
