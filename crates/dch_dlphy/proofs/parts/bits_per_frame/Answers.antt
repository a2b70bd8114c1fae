use Rattle.std.proofs.Common.{◌≡◌, ◌≤◌, ◌*◌, ◌∙◌, subst, sym}
use Rattle.dch_types.specs.declared.config.Downlink.{Downlink}
use Rattle.dch_types.specs.Parts.{channel_at}
use Rattle.dch_config.specs.Good.{IsGood}
use Rattle.dch_frame.specs.Downlinks.{places_of}
use Rattle.dch_accept.proofs.TtiPlaces.{tti_room}
use Rattle.dch_dlphy.proofs.parts.bits_per_frame.Goals as goal

pub returns-clause-room : goal.returns-clause-room
returns-clause-room c =
    let planned = c.args.accepted.now in
    let downlink : Downlink = planned.config.downlink in
    let good : IsGood planned.config = subst IsGood c.config-config.ensures.value c.config-config.ensures.good in
    let cells : c.cells.result ≡ places_of downlink c.args.channel c.args.format =
    c.cells.ensures ∙ ((c.downlink_plan.ensures.plan.rows c.args.channel c.requires.channel).matchings c.args.format c.requires.format).cells in
    subst (λ n. (channel_at downlink.side c.args.channel).frames * n ≤ 457920) (sym cells)
    (tti_room downlink c.args.channel c.args.format good.downlink c.requires.channel c.requires.format)
