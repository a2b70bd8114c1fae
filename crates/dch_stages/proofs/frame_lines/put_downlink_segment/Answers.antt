use Rattle.std.proofs.Common.{◌≡◌, ◌≤◌, ◌<◌, ◌+◌, ◌*◌, ◌%◌, ◌∙◌, ℕ, length, arith, ap, sym, subst}
use Rattle.std.proofs.lemmas.Nat.{mod_below}
use Rattle.std.proofs.Math.Nat.{mul-le-mul_left}
use Rattle.dch_types.specs.Parts.{channel_at, format_number}
use Rattle.dch_dlphy.specs.Frames.{bits_per_frame}
use Rattle.dch_tti.specs.Loaded.{Loaded, loaded_at}
use Rattle.dch_stages.proofs.frame_lines.put_downlink_segment.Goals as goal

pub put_segment-requires : goal.put_segment-requires
put_segment-requires g c =
    let i : ℕ = c.args.i in
    let comb : ℕ = c.args.combination in
    let planned = c.args.accepted.now in
    let side = planned.config.downlink.side in
    let n : ℕ = c.args.cfn % c.frames_of.result in
    let f : ℕ = format_number side comb i in
    let size : ℕ = bits_per_frame planned comb i in
    let frames : c.frames_of.result ≡ (channel_at side i).frames = c.frames_of.ensures.value in
    let small : n < c.frames_of.result = mod_below c.args.cfn c.frames_of.result c.frames_of.ensures.some in
    let there : f < length (channel_at side i).formats = (c.places_in_frame-size.ensures.side.combinations comb c.requires.combination).formats i c.requires.channel in
    let long : length (loaded_at c.args.tti.now i).cells ≡ (channel_at side i).frames * size = c.requires.opened.long i c.requires.channel f there (c.requires.formats i c.requires.channel) in
    let times : size * (n + 1) ≤ size * (channel_at side i).frames = mul-le-mul_left size (omega (arith, frames, small)) in
    let room : n * size + size ≤ length (loaded_at c.args.tti.now i).cells = omega (arith, long, times) in
    let here : c.buffer_of.result.now ≡ loaded_at c.args.tti.now i = c.buffer_of.ensures ∙ ap (λ tti. loaded_at tti i) c.tti_buffers.ensures in
    record {
      inside = subst (λ m. n * m + m ≤ length c.buffer_of.result.now.cells) (sym c.places_in_frame-size.ensures.value)
          (subst (λ (loaded : Loaded). n * size + size ≤ length loaded.cells) (sym here) room);
    }
