use Rattle.std.proofs.Common.{◌≡◌, ◌<◌, ◌≤◌, ◌*◌, ◌∙◌, ℕ, ap, ap₂, arith, subst, sym}
use Rattle.dch_types.specs.Limits.{IsChannel, IsFrames}
use Rattle.dch_types.specs.Parts.{channel_at}
use Rattle.dch_frame.specs.Downlinks.{places_of}
use Rattle.dch_frame.proofs.Carried.{rows_of, whole_rows}
use Rattle.dch_collision.proofs.FrameSizes.{some_frames}
use Rattle.dch_margin.proofs.carrier.downlink_carrier.Goals as goal

pub returns-clause-value : goal.returns-clause-value
returns-clause-value c =
    let side = c.args.config.now.side in
    let frames : c.from-frames.result ≡ (channel_at side c.args.i).frames = c.from-frames.ensures ∙ c.frames_of.ensures.value ∙ ap (λ (i : ℕ). (channel_at side i).frames) c.from.ensures in
    let len : c.from-frames.result * c.places_down-count.result ≡ (channel_at side c.args.i).frames * places_of c.args.config.now c.args.i c.args.f = ap₂ (λ (a b : ℕ). a * b) frames c.places_down-count.ensures.value in
    cc (c.from-2.ensures, frames, len, c.frame_bits.ensures.value, c.code_bits.ensures.value, c.before_down.ensures, c.places_down-count.ensures.value, c.pattern_down.ensures.value)

pub returns-clause-fits : goal.returns-clause-fits
returns-clause-fits c =
    let side = c.args.config.now.side in
    let channel : IsChannel (channel_at side c.args.i) = c.requires.good.side.channels c.args.i c.requires.channel in
    let frames : c.from-frames.result ≡ (channel_at side c.args.i).frames = c.from-frames.ensures ∙ c.frames_of.ensures.value ∙ ap (λ (i : ℕ). (channel_at side i).frames) c.from.ensures in
    let some : 0 < c.from-frames.result = omega (arith, frames, some_frames (channel_at side c.args.i).frames channel.frames) in
    let turned : c.from-frames.result * c.places_down-count.result ≡ c.places_down-count.result * c.from-frames.result = omega arith in
    let room : c.from-frames.result * c.places_down-count.result ≤ 457920 = subst (λ (n : ℕ). n * c.places_down-count.result ≤ 457920) (sym frames) c.places_down-count.ensures.room in
    let P : ℕ → Type 0 = λ n. IsFrames n in
    record {
      is = subst P (sym frames) channel.frames;
      inside = omega (arith, c.from-2.ensures, frames, c.requires.frame);
      whole = whole_rows c.from-frames.result c.places_down-count.result (c.from-frames.result * c.places_down-count.result) some turned;
      small = omega (arith, room);
      few = omega (arith, c.frame_bits.ensures.small);
      codes = λ more. omega (arith, c.code_bits.ensures.some);
      short = omega (arith, c.code_bits.ensures.small);
      matched = record {
        formed = c.pattern_down.ensures.formed;
        count = sym (rows_of c.from-frames.result c.places_down-count.result (c.from-frames.result * c.places_down-count.result) some turned);
      };
    }
