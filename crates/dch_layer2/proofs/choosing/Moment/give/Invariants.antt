use Rattle.dch_layer2.proofs.Serving.{AreServed}
use Rattle.dch_layer2.proofs.choosing.Moment.give.Given as goal

abbrev pub invariant-loop-q : goal.invariant-loop-q
invariant-loop-q l = AreServed l.self l.channel l.format l.q 0 l.built l.fn.bearers l.bearers l.fn.blocks l.blocks

abbrev pub invariant-loop-b : goal.invariant-loop-b
invariant-loop-b l = AreServed l.self l.channel l.format l.q l.b l.built l.fn.bearers l.bearers l.fn.blocks l.blocks
