use Rattle.std.proofs.Common.{◌≡◌, ◌*◌, ℕ, ap, ap₂, ◌∙◌, arith}
use Rattle.dch_types.specs.declared.channel.Trch.{Trch}
use Rattle.dch_types.specs.declared.config.Downlink.{Downlink}
use Rattle.dch_types.specs.Lengths.{tti_bits}
use Rattle.dch_types.specs.Parts.{channel_at, format_at}
use Rattle.dch_frame.specs.Downlinks.{bits_of, places_of}
use Rattle.dch_frame.specs.Matched.{matched}
use Rattle.dch_frame.proofs.Fits.{suits, cells_le, matching_is}
use Rattle.dch_frame.proofs.downlink_plan.match_format.Goals as goal

pub matched-kind-requires-clause-sent : goal.matched-kind-requires-clause-sent
matched-kind-requires-clause-sent c =
    let config : Downlink = c.args.config.now in
    let cells : c.at-cells.result ≡ places_of config c.args.i c.args.f = c.at-cells.ensures.value ∙ c.requires.table c.args.i c.args.f c.requires.channel c.requires.format in
    let few = (suits config c.args.i c.args.f c.requires.good c.requires.channel c.requires.format).few in
    let frames : c.channel-channel.result.now.frames * c.at-cells.result ≡ (channel_at config.side c.args.i).frames * c.at-cells.result = ap (λ (t : Trch). t.frames * c.at-cells.result) c.channel-channel.ensures.value in
    omega (arith, frames, cells_le config.side c.args.i c.at-cells.result c.requires.good.side c.requires.channel (omega (arith, cells, few)))

pub returns : goal.returns
returns c =
    let config : Downlink = c.args.config.now in
    let channel : Trch = channel_at config.side c.args.i in
    let cells : ℕ = c.at-cells.result in
    let long : c.tti_bits-len.result ≡ tti_bits channel (format_at channel c.args.f) =
    c.tti_bits-len.ensures ∙ ap (tti_bits c.channel-channel.result.now) c.format.ensures.value ∙ ap (λ (t : Trch). tti_bits t (format_at t c.args.f)) c.channel-channel.ensures.value in
    let wide : cells ≡ places_of config c.args.i c.args.f = c.at-cells.ensures.value ∙ c.requires.table c.args.i c.args.f c.requires.channel c.requires.format in
    let kind : c.matched-kind.result ≡ matched (bits_of config c.args.i c.args.f) (channel.frames * cells) 1 =
    c.matched-kind.ensures ∙ ap₂ (λ bits sent. matched bits sent 1) c.bits_of.ensures.value (ap (λ (t : Trch). t.frames * cells) c.channel-channel.ensures.value) in
    matching_is config c.args.i c.args.f c.tti_bits-len.result cells c.matched-kind.result c.requires.good c.requires.channel c.requires.format long wide kind
