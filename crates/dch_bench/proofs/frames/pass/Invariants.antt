use Rattle.dch_bench.specs.Trips.{IsTripOf}
use Rattle.dch_bench.proofs.frames.pass.Given as goal

abbrev pub invariant-loop-n : goal.invariant-loop-n
invariant-loop-n g l = IsTripOf g.E.Ends.dir g.E.Ends.opened g.E.Ends.loaded l.accepted l.trip
