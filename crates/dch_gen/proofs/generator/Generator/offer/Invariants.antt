use Rattle.dch_gen.specs.Run.{HappenAll}
use Rattle.dch_gen.specs.Generators.{Advances}
use Rattle.dch_gen.specs.Units.{offered_below}
use Rattle.dch_gen.proofs.generator.Generator.offer.Given as goal

abbrev pub invariant-loop-bearer : goal.invariant-loop-bearer
invariant-loop-bearer l = Advances l.bearer (HappenAll (offered_below l.frames l.frame l.dir l.bearer)) l.initial.self l.self
