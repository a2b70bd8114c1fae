use Rattle.std.proofs.Common.{◌≡◌, ◌<◌, ◌≤◌, ◌/◌, ◌*◌, ℕ, get_or, length, arith, ap, sym, ◌∙◌, subst}
use Rattle.std.specs.Int.{div_ceil}
use Rattle.std.specs.Prelude.{slice_index}
use Rattle.std.proofs.lemmas.List.{get_or_default}
use Rattle.dch_frame.specs.declared.uplink_plan.UplinkPlan.{UplinkPlan}
use Rattle.dch_frame.specs.Uplinks.{IsPlan}
use Rattle.dch_collision.specs.Plans.{no_plan}
use Rattle.std.proofs.lemmas.List.{length-take}
use Rattle.dch_types.specs.Limits.{IsChannel, IsFrames}
use Rattle.dch_types.specs.Parts.{channel_at}
use Rattle.dch_inter.specs.Places.{frame_of}
use Rattle.dch_frame.proofs.Carried.{place_inside, rows_of, whole_rows}
use Rattle.dch_inter.proofs.FirstColumns.{frame_of-below}
use Rattle.dch_collision.specs.Copies.{bits_in}
use Rattle.dch_margin.proofs.Counts.{carried_more}
use Rattle.dch_collision.proofs.FrameSizes.{some_frames}
use Rattle.dch_margin.proofs.counting.count_uplink.Goals as goal

pub count_frame-requires-clause-plan : goal.count_frame-requires-clause-plan
count_frame-requires-clause-plan c =
    let at : ℕ = slice_index c.args.sequence.now c.loop-n.n in
    let there : at < length c.args.config.now.side.combinations = c.requires.legal.there c.loop-n.n c.loop-n-test.true in
    let P : UplinkPlan → Type 0 = λ plan. IsPlan c.args.config.now at plan in
    let inside : c.from.result < length c.args.plans.now = omega (arith, c.from.ensures, c.requires.plans.all, there) in
    subst P (ap (λ (k : ℕ). get_or c.args.plans.now k no_plan) (sym c.from.ensures) ∙ get_or_default c.args.plans.now c.from.result no_plan _ inside) (c.requires.plans.each at there)

pub loop-n-preserved : goal.loop-n-preserved
loop-n-preserved c =
    let side = c.args.config.now.side in
    let frames : ℕ = length c.args.sequence.now in
    let rows : ℕ = div_ceil (bits_in side c.args.i c.args.f) (channel_at side c.args.i).frames in
    let channel : IsChannel (channel_at side c.args.i) = c.requires.good.side.channels c.args.i c.requires.channel in
    let is : frames ≡ (channel_at side c.args.i).frames = c.requires.legal.whole in
    let P : ℕ → Type 0 = λ n. IsFrames n in
    let each : IsFrames frames = subst P (sym is) channel.frames in
    let some : 0 < frames = some_frames frames each in
    let long : length c.put_segment.new.tti ≡ length c.args.votes.now = c.put_segment.auto.tti ∙ c.loop-n.auto.votes in
    let all : length c.args.votes.now ≡ rows * frames = c.requires.whole ∙ ap (λ n. rows * n) (sym is) in
    let row : length c.args.votes.now / frames ≡ rows = rows_of frames rows (length c.args.votes.now) some all in
    let cut : length c.count_frame.new.segment ≡ rows =
    c.count_frame.auto.segment ∙ c.loop-n.auto.segment
    ∙ omega (arith, length-take (length c.args.votes.now / frames) c.args.segment.now, row, c.requires.room, all, some, rows_few rows frames some) in
    carried_more c.args.config.now c.args.i c.args.f c.loop-n.n frames c.args.sequence.now c.count_frame.new.segment c.loop-n.votes c.put_segment.new.tti
    is (long ∙ c.requires.whole) (sym c.put_segment.auto.tti) c.put_segment.ensures.carried c.put_segment.ensures.same
    (λ j inside. omega (arith, cut, place_inside frames rows (length c.put_segment.new.tti) j each some (long ∙ all) inside))
    c.count_frame.ensures c.loop-n.invariant
  where
    rows_few : (rows frames : ℕ) → 0 < frames → rows ≤ rows * frames
    rows_few rows frames some = grind (arith)

pub returns : goal.returns
returns c j inside =
    let side = c.args.config.now.side in
    let frames : ℕ = (channel_at side c.args.i).frames in
    let rows : ℕ = div_ceil (bits_in side c.args.i c.args.f) frames in
    let channel : IsChannel (channel_at side c.args.i) = c.requires.good.side.channels c.args.i c.requires.channel in
    let all : length c.loop-n.votes ≡ rows * frames = c.loop-n.auto.votes ∙ c.requires.whole in
    let some : 0 < frames = some_frames frames channel.frames in
    let below : frame_of frames (length c.loop-n.votes) j < frames = frame_of-below frames (length c.loop-n.votes) j channel.frames (whole_rows frames rows (length c.loop-n.votes) some all) inside in
    c.loop-n.invariant j inside (omega (arith, below, c.requires.legal.whole, c.loop-n-test.false))
