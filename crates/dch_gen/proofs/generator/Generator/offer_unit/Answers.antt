use Rattle.std.proofs.Common.{Option, subst}
use Rattle.dch_gen.specs.Run.{HappenAll}
use Rattle.dch_gen.specs.Generators.{Advances}
use Rattle.dch_gen.specs.Units.{offers}
use Rattle.dch_gen.specs.declared.units.UnitSize.{UnitSize}
use Rattle.dch_gen.proofs.Advancing.{advances_idle}
use Rattle.dch_gen.proofs.generator.Generator.offer_unit.Goals as goal

pub returns-in-None : goal.returns-in-None
returns-in-None c =
    subst (λ (size : Option UnitSize). Advances 1 (HappenAll (offers c.args.frame c.args.dir c.args.bearer size)) c.args.self.now c.args.self.now) c.in-None.ensures.value (advances_idle 1 c.args.self.now c.requires.ready)
