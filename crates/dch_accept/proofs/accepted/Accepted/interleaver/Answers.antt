use Rattle.dch_accept.proofs.Sizes.{plan_sized}
use Rattle.dch_accept.proofs.accepted.Accepted.interleaver.Goals as goal

pub of_frame-requires : goal.of_frame-requires
of_frame-requires c = plan_sized _ _ _ c.uplink_plan.ensures.plan
