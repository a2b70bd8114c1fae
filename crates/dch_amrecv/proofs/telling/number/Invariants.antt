use Rattle.std.proofs.Common.{◌≡◌, map, take, drop}
use Rattle.dch_amrecv.specs.Holding.{numbered}
use Rattle.dch_amrecv.proofs.telling.number.Given as goal

abbrev pub invariant-loop-i : goal.invariant-loop-i
invariant-loop-i l = (take l.i l.pairs ≡ map (numbered l.next) (take l.i l.fn.pairs)) × (drop l.i l.pairs ≡ drop l.i l.fn.pairs)
