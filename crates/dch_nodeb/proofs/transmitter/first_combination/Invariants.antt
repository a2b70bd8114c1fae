use Rattle.dch_nodeb.specs.Moves.{RunsInNone}
use Rattle.dch_nodeb.proofs.transmitter.first_combination.Given as goal

abbrev pub invariant-loop-c : goal.invariant-loop-c
invariant-loop-c l = RunsInNone l.side l.c l.formats
