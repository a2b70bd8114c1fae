use Rattle.dch_layer2.specs.Coming.{AreTaken}
use Rattle.dch_layer2.proofs.layer.Layer2.take.Given as goal

abbrev pub invariant-loop-k : goal.invariant-loop-k
invariant-loop-k g l = AreTaken g.U.Indications.shows l.accepted.config l.channel l.k l.blocks l.fn.self l.self l.fn.user l.user
