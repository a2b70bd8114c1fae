use Rattle.std.proofs.Common.{subst, sym}
use Rattle.dch_config.specs.Good.{IsGood}
use Rattle.dch_layer2.specs.BearerStanding.{FitsUm}
use Rattle.dch_layer2.specs.BearerValues.{FillsBlocks, UmRunning}
use Rattle.dch_layer2.specs.contracts.um.UmBearer.{the_view}
use Rattle.dch_layer2.specs.declared.shape.Shape.{Shape}
use Rattle.dch_layer2.proofs.KeptBearers.{um_fills}
use Rattle.dch_layer2.proofs.um.UmBearer.change.Goals as goal

pub invariant_of-self : goal.invariant_of-self
invariant_of-self c = (
  subst (λ (shape : Shape). FillsBlocks shape c.self.inside.sender) (sym c.shape_on-self-inside.ensures)
      (um_fills c.args.accepted.now.config c.args.out (the_view c.self.inside) (subst IsGood c.config-config.ensures.value c.config-config.ensures.good)
      (subst (λ (v : UmRunning). FitsUm c.args.accepted.now.config c.args.out v) (sym c.self.view_is) c.requires) c.self.invariant.0),
  c.self.invariant.1,
)
