use Rattle.dch_trellis.specs.Distance.{copies_at}
use Rattle.dch_margin.proofs.Plain.{IsFewest}
use Rattle.dch_margin.proofs.distance.fewest.Given as goal

abbrev pub invariant-loop-k : goal.invariant-loop-k
invariant-loop-k l = IsFewest (copies_at l.votes) l.k l.fewest
