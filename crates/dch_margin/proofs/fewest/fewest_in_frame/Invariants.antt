use Rattle.dch_margin.specs.Fewest.{AreFewest}
use Rattle.dch_margin.proofs.fewest.fewest_in_frame.Given as goal

abbrev pub invariant-loop-c : goal.invariant-loop-c
invariant-loop-c l = AreFewest l.config l.i l.f l.n l.c l.fewest
