use Rattle.std.proofs.Common.{◌<◌, arith, length, subst}
use Rattle.dch_types.specs.declared.channel.Dir.{Dir}
use Rattle.dch_types.specs.Parts.{channel_at, side_of}
use Rattle.dch_config.specs.Good.{IsGood}
use Rattle.dch_frame.specs.Downlinks.{IsDownlinkPlan}
use Rattle.dch_stages.proofs.Shown.{places_short}
use Rattle.dch_stages.proofs.places.cells_of.Goals as goal

pub returns-in-Down-clause-few : goal.returns-in-Down-clause-few
returns-in-Down-clause-few c =
    let planned = c.args.accepted.now in
    let i = c.args.tti.channel in
    let f = c.args.tti.format in
    let good : IsGood planned.config = subst IsGood c.config-config.ensures.value c.config-config.ensures.good in
    let plan : IsDownlinkPlan planned.config.downlink planned.downlink = subst (IsDownlinkPlan planned.config.downlink) c.downlink_plan-plan.ensures.value c.downlink_plan-plan.ensures.plan in
    let inside = subst (λ (d : Dir). i < length (side_of planned.config d).channels) c.in-Down.is c.requires.channel in
    let there = subst (λ (d : Dir). f < length (channel_at (side_of planned.config d) i).formats) c.in-Down.is c.requires.format in
    omega (arith, c.places_of.ensures, places_short planned i f good.downlink plan inside there)
