use Rattle.dch_layer2.specs.Started.{HaveStarted}
use Rattle.dch_layer2.proofs.choosing.Moment.start_all.Given as goal

abbrev pub invariant-loop-i : goal.invariant-loop-i
invariant-loop-i l = HaveStarted l.self l.combination l.i l.fn.bearers l.bearers l.fn.given l.given
