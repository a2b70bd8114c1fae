use Rattle.std.proofs.Common.{◌≡◌, ◌≤◌, ◌<◌, ◌+◌, ◌*◌, ◌%◌, ◌∙◌, ℕ, length, arith, ap, sym, subst}
use Rattle.std.proofs.lemmas.Nat.{mod_below}
use Rattle.dch_types.specs.Parts.{channel_at}
use Rattle.dch_frame.specs.Uplinks.{before_of}
use Rattle.dch_tti.specs.Loaded.{Loaded, loaded_at}
use Rattle.dch_ulphy.proofs.Sent.{segment_room}
use Rattle.dch_stages.proofs.frame_lines.put_uplink_segment.Goals as goal

pub put_segment-requires : goal.put_segment-requires
put_segment-requires g c =
    let i : ℕ = c.args.i in
    let comb : ℕ = c.args.combination in
    let side = c.args.accepted.now.config.uplink.side in
    let n : ℕ = c.args.cfn % c.frames_of.result in
    let before : ℕ = before_of side comb i in
    let frames : c.frames_of.result ≡ (channel_at side i).frames = c.frames_of.ensures.value in
    let small : n < c.frames_of.result = mod_below c.args.cfn c.frames_of.result c.frames_of.ensures.some in
    let room : n * before + before ≤ length (loaded_at c.args.tti.now i).cells = segment_room c.args.accepted.now comb i n c.args.tti.now c.segment_size-size.ensures.side c.requires.opened c.requires.combination c.requires.formats c.requires.channel (omega (arith, frames, small)) in
    let here : c.buffer_of.result.now ≡ loaded_at c.args.tti.now i = c.buffer_of.ensures ∙ ap (λ tti. loaded_at tti i) c.tti_buffers.ensures in
    record {
      inside = subst (λ m. n * m + m ≤ length c.buffer_of.result.now.cells) (sym c.segment_size-size.ensures.before)
          (subst (λ (loaded : Loaded). n * before + before ≤ length loaded.cells) (sym here) room);
    }
