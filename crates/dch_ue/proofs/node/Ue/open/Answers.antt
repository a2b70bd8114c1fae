use Rattle.std.proofs.Common.{subst}
use Rattle.dch_types.specs.declared.channel.Side.{Side}
use Rattle.dch_types.specs.Limits.{IsSide}
use Rattle.dch_ue.proofs.Opening.{opened_is, opened_stands}
use Rattle.dch_ue.proofs.node.Ue.open.Goals as goal

pub returns-clause-opened : goal.returns-clause-opened
returns-clause-opened c =
    opened_is c.args.accepted.now c.args.first_cfn c.in_ok-open.field-0 c.in_ok-open-2.field-0 c.in_ok-open-3.field-0 (subst (λ (side : Side). IsSide side) c.side-side.ensures.value c.side-side.ensures.good) c.requires
    c.in_ok-open.ensures c.in_ok-open-2.ensures.opened c.in_ok-open-2.ensures.none c.in_ok-open-3.ensures.opened

pub returns-clause-stands : goal.returns-clause-stands
returns-clause-stands c =
    opened_stands c.args.accepted.now c.args.first_cfn c.in_ok-open.field-0 c.in_ok-open-2.field-0 c.in_ok-open-3.field-0 (subst (λ (side : Side). IsSide side) c.side-side.ensures.value c.side-side.ensures.good) c.requires
    c.in_ok-open.ensures c.in_ok-open-2.ensures.missing c.in_ok-open-2.ensures.none c.in_ok-open-2.ensures.quiet c.in_ok-open-3.ensures.quiet
