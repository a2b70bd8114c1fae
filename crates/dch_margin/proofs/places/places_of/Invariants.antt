use Rattle.std.proofs.Common.{◌≡◌}
use Rattle.dch_margin.specs.Worst.{carriers_in, carriers_under, tti_places}
use Rattle.dch_margin.proofs.places.places_of.Given as goal

abbrev pub invariant-loop-n : goal.invariant-loop-n
invariant-loop-n l = l.places ≡ tti_places (carriers_under (carriers_in l.direction) l.i l.f l.sequence) l.code l.from l.n
