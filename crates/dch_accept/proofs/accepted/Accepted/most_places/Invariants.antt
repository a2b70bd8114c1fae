use Rattle.std.proofs.Common.{◌≡◌}
use Rattle.dch_accept.specs.Rooms.{places_below}
use Rattle.dch_accept.proofs.accepted.Accepted.most_places.Given as goal

abbrev pub invariant-loop-f : goal.invariant-loop-f
invariant-loop-f l = l.most ≡ places_below l.self.downlink l.channel l.f
