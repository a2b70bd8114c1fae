use Rattle.std.proofs.Common.{◌≡◌, length, arith, subst}
use Rattle.dch_config.specs.Good.{IsGood}
use Rattle.dch_types.specs.Lengths.{tti_bits}
use Rattle.dch_types.specs.Parts.{channel_at, format_at}
use Rattle.dch_types.specs.declared.channel.Trch.{Trch}
use Rattle.dch_frame.specs.Downlinks.{IsDownlinkPlan}
use Rattle.dch_stages.proofs.Parts.{coded_long}
use Rattle.dch_stages.proofs.Shown.{places_short}
use Rattle.dch_stages.proofs.showing.put_downlink_tti.Goals as goal

pub put_downlink_line-requires-clause-space : goal.put_downlink_line-requires-clause-space
put_downlink_line-requires-clause-space g c =
    let planned = c.args.showing.now.accepted in
    let stages = c.args.showing.now.stages in
    let channel : Trch = channel_at planned.config.downlink.side c.args.channel in
    let good : IsGood planned.config = subst IsGood c.config-config.ensures.value c.config-config.ensures.good in
    let own = good.downlink.side.channels c.args.channel c.requires.asked.0 in
    let long : length stages.coded ≡ tti_bits channel (format_at channel c.args.format) = coded_long channel (format_at channel c.args.format) stages c.requires.asked.1.1.0 in
    omega (arith, long, (own.formats c.args.format c.requires.asked.1.0).bits, c.requires.rooms.space)

pub put_downlink_line-requires-clause-cells : goal.put_downlink_line-requires-clause-cells
put_downlink_line-requires-clause-cells g c =
    let planned = c.args.showing.now.accepted in
    let good : IsGood planned.config = subst IsGood c.config-config.ensures.value c.config-config.ensures.good in
    let plan : IsDownlinkPlan planned.config.downlink planned.downlink = subst (IsDownlinkPlan planned.config.downlink) c.downlink_plan-plan.ensures.value c.downlink_plan-plan.ensures.plan in
    omega (arith, places_short planned c.args.channel c.args.format good.downlink plan c.requires.asked.0 c.requires.asked.1.0, c.requires.rooms.cells)
