use Rattle.std.proofs.Common.{◌≡◌, ◌*◌, ◌<◌, ℕ, length, arith, ap, sym, ◌∙◌}
use Rattle.dch_inter.specs.Places.{frame_of}
use Rattle.dch_inter.proofs.FirstColumns.{frame_of-below}
use Rattle.dch_frame.proofs.Carried.{whole_rows}
use Rattle.dch_types.specs.Parts.{channel_at}
use Rattle.dch_dlphy.specs.Loaded.{matching_of}
use Rattle.dch_dlphy.proofs.demultiplexing.demultiplex_tti.Goals as goal

pub returns : goal.returns
returns c p inside =
    let planned = c.args.accepted.now in
    let i : ℕ = c.args.channel in
    let rows : ℕ = (matching_of planned i c.args.format).cells in
    let f : ℕ = c.frames_of-frames.result in
    let len : ℕ = length c.loop-n.out in
    let value : f ≡ (channel_at planned.config.downlink.side i).frames = c.frames_of-frames.ensures.value in
    let whole : len ≡ rows * f = c.loop-n.auto.out ∙ c.requires.whole ∙ ap (λ f. rows * f) (sym value) in
    let below : frame_of f len p < f = frame_of-below f len p c.frames_of-frames.ensures.frames (whole_rows f rows len c.frames_of-frames.ensures.some whole) inside in
    c.loop-n.invariant p inside (omega (arith, below, ap (λ f. frame_of f len p) value))
