use Rattle.std.proofs.Common.{◌≡◌}
use Rattle.dch_types.specs.Parts.{side_of}
use Rattle.dch_accept.specs.Blocks.{HoldsTtis}
use Rattle.dch_bench.proofs.round_trip.are_back.Given as goal

abbrev pub invariant-loop-i : goal.invariant-loop-i
invariant-loop-i g l =
    let side = side_of l.accepted.config g.E.Ends.dir in
    HoldsTtis side l.given.room × (g.E.Ends.opened l.accepted l.ends
    × ((g.E.Ends.loaded l.ends ≡ g.E.Ends.loaded l.fn.ends) × HoldsTtis side l.read.room))
