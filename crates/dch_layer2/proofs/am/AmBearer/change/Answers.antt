use Rattle.std.proofs.Common.{subst, sym}
use Rattle.dch_config.specs.Good.{IsGood}
use Rattle.dch_layer2.specs.Acknowledged.{AmRunning, IsAmShape}
use Rattle.dch_layer2.specs.BearerStanding.{FitsAm}
use Rattle.dch_layer2.specs.contracts.am.AmBearer.{the_view}
use Rattle.dch_layer2.specs.declared.shape.Shape.{Shape}
use Rattle.dch_layer2.proofs.KeptBearers.{am_shape}
use Rattle.dch_layer2.proofs.am.AmBearer.change.Goals as goal

pub invariant_of-self : goal.invariant_of-self
invariant_of-self c =
    subst (λ (shape : Shape). IsAmShape shape c.self.inside.entity) (sym c.shape_on-self-inside.ensures)
    (am_shape c.args.accepted.now.config c.args.out (the_view c.self.inside) (subst IsGood c.config-config.ensures.value c.config-config.ensures.good)
    (subst (λ (v : AmRunning). FitsAm c.args.accepted.now.config c.args.out v) (sym c.self.view_is) c.requires) c.self.invariant)
