use Rattle.std.proofs.Common.{◌≡◌, List, ap, ap₂, ◌∙◌, length, arith, subst}
use Rattle.dch_types.specs.declared.config.Config.{Config}
use Rattle.dch_types.specs.declared.config.Downlink.{Downlink}
use Rattle.dch_types.specs.Parts.{format_number}
use Rattle.dch_frame.specs.declared.downlink_plan.RateMatching.{RateMatching}
use Rattle.dch_frame.specs.Downlinks.{IsDownlinkPlan, matching_at}
use Rattle.dch_types.proofs.Sums.{part_le}
use Rattle.dch_dlphy.specs.Frames.{bits_per_frame}
use Rattle.dch_stages.proofs.frame_lines.places_in_frame.Goals as goal

pub returns-clause-inside : goal.returns-clause-inside
returns-clause-inside c =
    let planned = c.args.accepted.now in
    let downlink : Downlink = planned.config.downlink in
    let plan : IsDownlinkPlan downlink planned.downlink = subst (IsDownlinkPlan downlink) c.downlink_plan.ensures.value c.downlink_plan.ensures.plan in
    let cells : c.cells.result ≡ bits_per_frame planned c.args.combination c.args.i =
    c.cells.ensures ∙ ap₂ (λ (plan : List (List RateMatching)) f. (matching_at plan c.args.i f).cells) c.downlink_plan.ensures.value (c.tfi-format.ensures.value ∙ ap (λ (config : Config). format_number config.downlink.side c.args.combination c.args.i) c.config.ensures.value) in
    omega (arith, cells, part_le (bits_per_frame planned c.args.combination) c.args.i (length downlink.side.channels) c.requires.channel, plan.room c.args.combination c.requires.combination)
