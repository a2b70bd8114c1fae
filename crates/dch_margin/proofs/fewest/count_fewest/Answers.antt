use Rattle.std.proofs.Common.{◌≡◌, ◌<◌, ◌≤◌, ◌+◌, ◌/◌, ◌*◌, ℕ, get_or, length, arith, ap, sym, ◌∙◌, subst}
use Rattle.std.specs.Int.{div_ceil}
use Rattle.std.proofs.lemmas.List.{length-take}
use Rattle.dch_bits.specs.declared.bit.Vote.{Vote}
use Rattle.dch_types.specs.Limits.{IsChannel, IsFrames}
use Rattle.dch_types.specs.Parts.{channel_at}
use Rattle.dch_inter.specs.Places.{frame_of, place_of}
use Rattle.dch_inter.proofs.FirstColumns.{frame_of-below}
use Rattle.dch_frame.proofs.Carried.{place_inside, rows_of, whole_rows}
use Rattle.dch_trellis.specs.Search.{no_votes}
use Rattle.dch_collision.specs.Copies.{bits_in, padded_in, uplink_copies}
use Rattle.dch_collision.proofs.FrameSizes.{some_frames}
use Rattle.dch_margin.specs.Differ.{IsLeast}
use Rattle.dch_margin.specs.Fewest.{IsCarriedIn, IsFewest}
use Rattle.dch_margin.proofs.FewestCells.{frame_more, least_carried}
use Rattle.dch_margin.proofs.fewest.count_fewest.Goals as goal

pub loop-n-preserved : goal.loop-n-preserved
loop-n-preserved c =
    let side = c.args.config.now.side in
    let frames : ℕ = c.from-frames.result in
    let rows : ℕ = div_ceil (bits_in side c.args.i c.args.f) (channel_at side c.args.i).frames in
    let channel : IsChannel (channel_at side c.args.i) = c.requires.good.side.channels c.args.i c.requires.channel in
    let is : frames ≡ (channel_at side c.args.i).frames = c.from-frames.ensures ∙ c.frames_of.ensures.value ∙ ap (λ (i : ℕ). (channel_at side i).frames) c.from.ensures in
    let P : ℕ → Type 0 = λ n. IsFrames n in
    let each : IsFrames frames = subst P (sym is) channel.frames in
    let some : 0 < frames = some_frames frames each in
    let long : length c.put_segment.new.tti ≡ length c.args.votes.now = c.put_segment.auto.tti ∙ c.loop-n.auto.votes in
    let all : length c.args.votes.now ≡ rows * frames = c.requires.whole ∙ ap (λ n. rows * n) (sym is) in
    let row : length c.args.votes.now / frames ≡ rows = rows_of frames rows (length c.args.votes.now) some all in
    let cut : length c.fewest_in_frame.new.fewest ≡ rows =
    c.fewest_in_frame.auto.fewest ∙ c.loop-n.auto.fewest
    ∙ omega (arith, length-take (length c.args.votes.now / frames) c.args.fewest.now, row, c.requires.fewest, all, some, rows_few rows frames some) in
    frame_more c.args.config.now c.args.i c.args.f c.loop-n.n frames c.fewest_in_frame.new.fewest c.loop-n.votes c.put_segment.new.tti is (sym c.put_segment.auto.tti) c.put_segment.ensures.carried c.put_segment.ensures.same
    (λ j inside. omega (arith, cut, place_inside frames rows (length c.put_segment.new.tti) j each some (long ∙ all) inside))
    c.fewest_in_frame.ensures c.loop-n.invariant
  where
    rows_few : (rows frames : ℕ) → 0 < frames → rows ≤ rows * frames
    rows_few rows frames some = grind (arith)

pub returns-clause-fewest : goal.returns-clause-fewest
returns-clause-fewest c j inside =
    let uplink = c.args.config.now in
    let side = uplink.side in
    let frames : ℕ = (channel_at side c.args.i).frames in
    let rows : ℕ = div_ceil (bits_in side c.args.i c.args.f) frames in
    let count : ℕ = length side.combinations in
    let channel : IsChannel (channel_at side c.args.i) = c.requires.good.side.channels c.args.i c.requires.channel in
    let is : c.from-frames.result ≡ frames = c.from-frames.ensures ∙ c.frames_of.ensures.value ∙ ap (λ (i : ℕ). (channel_at side i).frames) c.from.ensures in
    let long : length c.loop-n.votes ≡ padded_in side c.args.i c.args.f = c.loop-n.auto.votes ∙ c.requires.whole in
    let some : 0 < frames = some_frames frames channel.frames in
    let below : frame_of frames (length c.loop-n.votes) j < frames = frame_of-below frames (length c.loop-n.votes) j channel.frames (whole_rows frames rows (length c.loop-n.votes) some long) inside in
    let vote : Vote = get_or c.loop-n.votes j no_votes in
    let here : IsFewest uplink c.args.i c.args.f (frame_of frames (length c.loop-n.votes) j) count (place_of frames (length c.loop-n.votes) j) vote = c.loop-n.invariant j inside (omega (arith, below, is, c.loop-n-test.false)) in
    let there : IsFewest uplink c.args.i c.args.f (frame_of frames (padded_in side c.args.i c.args.f) j) count (place_of frames (padded_in side c.args.i c.args.f) j) vote =
    subst (λ (len : ℕ). IsFewest uplink c.args.i c.args.f (frame_of frames len j) count (place_of frames len j) vote) long here in
    let zeros : vote.zeros ≡ vote.zeros + vote.ones = omega (arith, here.ones) in
    subst (λ (n : ℕ). IsLeast (IsCarriedIn side (uplink_copies uplink) c.args.i c.args.f j) n) zeros
    (least_carried uplink c.args.i c.args.f j vote (subst (λ (len : ℕ). frame_of frames len j < frames) long below) there)

pub returns-clause-counts : goal.returns-clause-counts
returns-clause-counts c j inside =
    let uplink = c.args.config.now in
    let side = uplink.side in
    let frames : ℕ = (channel_at side c.args.i).frames in
    let rows : ℕ = div_ceil (bits_in side c.args.i c.args.f) frames in
    let channel : IsChannel (channel_at side c.args.i) = c.requires.good.side.channels c.args.i c.requires.channel in
    let is : c.from-frames.result ≡ frames = c.from-frames.ensures ∙ c.frames_of.ensures.value ∙ ap (λ (i : ℕ). (channel_at side i).frames) c.from.ensures in
    let some : 0 < frames = some_frames frames channel.frames in
    let below : frame_of frames (length c.loop-n.votes) j < frames = frame_of-below frames (length c.loop-n.votes) j channel.frames (whole_rows frames rows (length c.loop-n.votes) some (c.loop-n.auto.votes ∙ c.requires.whole)) inside in
    let here : IsFewest uplink c.args.i c.args.f (frame_of frames (length c.loop-n.votes) j) (length side.combinations) (place_of frames (length c.loop-n.votes) j) (get_or c.loop-n.votes j no_votes) = c.loop-n.invariant j inside (omega (arith, below, is, c.loop-n-test.false)) in
    record { zeros = omega (arith, here.ones); ones = here.ones; few = omega (arith, here.ones, here.few) }
