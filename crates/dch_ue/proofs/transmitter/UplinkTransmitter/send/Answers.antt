use Rattle.std.proofs.Common.{arith, rules, ap, subst}
use Rattle.dch_config.specs.Good.{IsGood}
use Rattle.dch_frame.specs.declared.uplink_plan.UplinkPlan.{UplinkPlan}
use Rattle.dch_frame.proofs.Sizes.{largest_most}
use Rattle.dch_ue.proofs.transmitter.UplinkTransmitter.send.Goals as goal

pub returns : goal.returns
returns g c =
    let good : IsGood c.args.accepted.now.config = subst IsGood c.config-config.ensures.value c.config-config.ensures.good in
    record {
      opened = search rules;
      running = search rules;
      sent = search rules;
      written = search rules;
      few = omega (
        arith,
        c.write.ensures.written.long,
        ap (λ (plan : UplinkPlan). plan.ndata) c.uplink_plan-plan.ensures.value,
        c.uplink_plan-plan.ensures.plan.most,
        largest_most c.args.accepted.now.config.uplink.largest good.uplink.largest,
      );
      shown = search rules;
    }
