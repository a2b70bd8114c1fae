use Rattle.std.proofs.Common.{◌≡◌, ◌++◌}
use Rattle.dch_margin.specs.Carriers.{carried}
use Rattle.dch_margin.specs.Worst.{cells_among, is_one}
use Rattle.dch_margin.proofs.places.push_places.Given as goal

abbrev pub invariant-loop-k : goal.invariant-loop-k
invariant-loop-k l = l.places ≡ l.fn.places ++ cells_among (λ k. is_one l.code l.from (carried l.carrier k)) l.carrier.number l.k
