use Rattle.std.proofs.Common.{◌≡◌, take}
use Rattle.std.specs.Prelude.{count_by}
use Rattle.dch_gen.specs.Counts.{is_one}
use Rattle.dch_gen.proofs.counts.count_few.Given as goal

abbrev pub invariant-loop-k : goal.invariant-loop-k
invariant-loop-k l = l.ones ≡ count_by is_one (take l.k l.cells)
