use Rattle.std.proofs.Common.{◌≡◌, ◌<◌, ◌≤◌, ◌+◌, ◌*◌, ◌∙◌, ℕ, ap, arith, subst, sym}
use Rattle.std.specs.Int.{div_ceil}
use Rattle.std.specs.Prelude.{min, slice_index}
use Rattle.std.proofs.lemmas.Grind.{div_ceil_times}
use Rattle.dch_types.specs.Limits.{IsChannel, IsFrames}
use Rattle.dch_types.specs.Parts.{channel_at, format_number}
use Rattle.dch_frame.specs.Uplinks.{sent_of, uplink_pattern}
use Rattle.dch_frame.proofs.Carried.{rows_of, whole_rows}
use Rattle.dch_frame.proofs.Sizes.{largest_most}
use Rattle.dch_collision.specs.Copies.{bits_in, frame_size}
use Rattle.dch_collision.proofs.FrameSizes.{frame_size-plan, some_frames}
use Rattle.dch_margin.proofs.carrier.uplink_carrier.Goals as goal

pub returns-clause-value : goal.returns-clause-value
returns-clause-value c =
    let uplink = c.args.config.now in
    let side = uplink.side in
    let size : c.args.plan.now.ndata ≡ frame_size uplink c.args.c = sym (frame_size-plan uplink c.args.c c.args.plan.now c.requires.plan) in
    let frames : c.from-3.result ≡ (channel_at side c.args.i).frames = c.from-3.ensures ∙ c.frames_of.ensures.value ∙ ap (λ (i : ℕ). (channel_at side i).frames) c.from-2.ensures in
    let code : c.min.result ≡ min (frame_size uplink c.args.c) 9600 = c.min.ensures ∙ ap (λ (n : ℕ). min n 9600) size in
    let count : slice_index c.args.plan.now.sent c.from-4.result ≡ sent_of side c.args.c (frame_size uplink c.args.c) c.args.i =
    ap (λ (i : ℕ). slice_index c.args.plan.now.sent i) c.from-4.ensures ∙ c.requires.plan.sent c.args.i c.requires.channel ∙ ap (λ (n : ℕ). sent_of side c.args.c n c.args.i) size in
    let pattern : c.frame.result ≡ uplink_pattern side c.args.c (frame_size uplink c.args.c) c.args.i c.args.n = c.frame.ensures.value ∙ ap (λ (n : ℕ). uplink_pattern side c.args.c n c.args.i c.args.n) size in
    cc (c.from.ensures, frames, c.requires.sizes.padded, size, code, c.before_up.ensures, count, pattern)

pub returns-clause-fits : goal.returns-clause-fits
returns-clause-fits c =
    let uplink = c.args.config.now in
    let side = uplink.side in
    let f : ℕ = format_number side c.args.c c.args.i in
    let channel : IsChannel (channel_at side c.args.i) = c.requires.good.side.channels c.args.i c.requires.channel in
    let frames : c.from-3.result ≡ (channel_at side c.args.i).frames = c.from-3.ensures ∙ c.frames_of.ensures.value ∙ ap (λ (i : ℕ). (channel_at side i).frames) c.from-2.ensures in
    let some : 0 < (channel_at side c.args.i).frames = some_frames (channel_at side c.args.i).frames channel.frames in
    let rows : ℕ = div_ceil (bits_in side c.args.i f) (channel_at side c.args.i).frames in
    let long : c.args.sizes.now.padded ≡ rows * c.from-3.result = c.requires.sizes.padded ∙ ap (λ (n : ℕ). rows * n) (sym frames) in
    let few : rows * (channel_at side c.args.i).frames ≤ bits_in side c.args.i f + (channel_at side c.args.i).frames = omega (arith, (div_ceil_times (bits_in side c.args.i f) (channel_at side c.args.i).frames some).1) in
    let format : bits_in side c.args.i f ≤ 131072 = (channel.formats f ((c.requires.good.side.combinations c.args.c c.requires.combination).formats c.args.i c.requires.channel)).bits in
    let P : ℕ → Type 0 = λ n. IsFrames n in
    record {
      is = subst P (sym frames) channel.frames;
      inside = omega (arith, c.from.ensures, frames, c.requires.frame);
      whole = whole_rows c.from-3.result rows c.args.sizes.now.padded (omega (arith, frames, some)) long;
      small = omega (arith, c.requires.sizes.padded, few, format, channel.frames);
      few = omega (arith, c.requires.plan.most, largest_most uplink.largest c.requires.good.largest);
      codes = λ more. omega (arith, more, c.min.ensures);
      short = omega (arith, c.min.ensures);
      matched = record {
        formed = c.frame.ensures.formed;
        len = c.frame.ensures.len ∙ sym (rows_of c.from-3.result rows c.args.sizes.now.padded (omega (arith, frames, some)) long);
        count = ap (λ (i : ℕ). slice_index c.args.plan.now.sent i) c.from-4.ensures ∙ c.requires.plan.sent c.args.i c.requires.channel ∙ sym c.frame.ensures.kept;
      };
    }
