use Rattle.std.proofs.Common.{◌+◌, List, subst, sym}
use Rattle.dch_link.specs.SoftNodes.{AreNewLegs}
use Rattle.dch_link.specs.SoftValues.{LegParts}
use Rattle.dch_link.proofs.Hit.{legs_next}
use Rattle.dch_link.proofs.hearing.open_legs.Goals as goal

pub loop-preserved : goal.loop-preserved
loop-preserved c =
    subst (λ (legs : List LegParts). AreNewLegs c.args.accepted.now c.args.first_cfn (c.loop.counter + 1) legs) (sym c.in_ok-push.ensures.items)
    (legs_next c.args.accepted.now c.args.first_cfn c.loop.counter c.loop.legs.items c.in_ok-open.field-0 c.loop.invariant c.in_ok-open.ensures.opened c.in_ok-open.ensures.stands)
