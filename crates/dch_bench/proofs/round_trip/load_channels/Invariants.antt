use Rattle.std.proofs.Common.{◌≡◌, length}
use Rattle.dch_types.specs.Parts.{side_of}
use Rattle.dch_accept.specs.Blocks.{HoldsTtis}
use Rattle.dch_bench.specs.Trips.{AreNoted}
use Rattle.dch_bench.proofs.round_trip.load_channels.Given as goal

abbrev pub invariant-loop-i : goal.invariant-loop-i
invariant-loop-i g l =
    HoldsTtis (side_of l.accepted.config g.E.Ends.dir) l.given.room × (g.E.Ends.opened l.accepted l.ends
    × (AreNoted (g.E.Ends.loaded l.ends) l.noted × (length l.noted ≡ 8)))
