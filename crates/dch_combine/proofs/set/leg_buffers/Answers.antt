use Rattle.std.proofs.Common.{◌+◌, List, subst, sym}
use Rattle.dch_combine.specs.declared.leg.LegBuffer.{LegBuffer}
use Rattle.dch_combine.specs.Steps.{AreNewLegs}
use Rattle.dch_combine.proofs.Buffers.{new_leg}
use Rattle.dch_combine.proofs.set.leg_buffers.Goals as goal

pub loop-leg-preserved : goal.loop-leg-preserved
loop-leg-preserved c =
    subst (λ (buffers : List LegBuffer). AreNewLegs c.args.accepted.now.config c.args.set (c.loop-leg._leg + 1) buffers) (sym c.in_ok-push.ensures.items)
    (new_leg c.args.accepted.now.config c.args.set c.loop-leg._leg c.loop-leg.buffers.items c.in_ok-open.field-0 c.loop-leg.invariant c.in_ok-open.ensures.empty c.in_ok-open.ensures.set)
