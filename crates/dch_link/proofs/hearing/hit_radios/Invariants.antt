use Rattle.dch_link.proofs.Hit.{HitTo}
use Rattle.dch_link.proofs.hearing.hit_radios.Given as goal

abbrev pub invariant-loop-k : goal.invariant-loop-k
invariant-loop-k l = HitTo l.k l.fn.legs l.legs
