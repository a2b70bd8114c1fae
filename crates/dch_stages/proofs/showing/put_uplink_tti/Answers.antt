use Rattle.std.proofs.Common.{◌≡◌, ◌≤◌, length, arith, subst}
use Rattle.dch_types.specs.Lengths.{padded, tti_bits}
use Rattle.dch_types.specs.Limits.{IsSide}
use Rattle.dch_types.specs.Parts.{channel_at, format_at}
use Rattle.dch_types.specs.declared.channel.Trch.{Trch}
use Rattle.dch_stages.proofs.Parts.{coded_long}
use Rattle.dch_stages.proofs.Shown.{padded_short}
use Rattle.dch_stages.proofs.showing.put_uplink_tti.Goals as goal

pub put_uplink_line-requires-clause-cells : goal.put_uplink_line-requires-clause-cells
put_uplink_line-requires-clause-cells g c =
    let side = c.args.showing.now.accepted.config.uplink.side in
    let stages = c.args.showing.now.stages in
    let channel : Trch = channel_at side c.args.channel in
    let good : IsSide side = subst IsSide c.side-side.ensures.value c.side-side.ensures.good in
    let own = good.channels c.args.channel c.requires.asked.0 in
    let long : length stages.coded ≡ tti_bits channel (format_at channel c.args.format) = coded_long channel (format_at channel c.args.format) stages c.requires.asked.1.1.0 in
    let short : padded (length stages.coded) channel.frames ≤ 460800 = padded_short channel.frames (length stages.coded) own.frames (omega (arith, long, (own.formats c.args.format c.requires.asked.1.0).bits)) in
    omega (arith, short, c.requires.rooms.cells)
