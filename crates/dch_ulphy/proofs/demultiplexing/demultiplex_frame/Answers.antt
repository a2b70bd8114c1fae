use Rattle.std.proofs.Common.{◌≡◌, ◌+◌, ◌≤◌, ℕ, length, arith, ap, sym, ◌∙◌, subst}
use Rattle.std.specs.Prelude.{Some, slice_index}
use Rattle.dch_config.specs.Good.{IsGood}
use Rattle.dch_inter.specs.Places.{frame_of}
use Rattle.dch_frame.specs.declared.uplink_plan.UplinkPlan.{UplinkPlan}
use Rattle.dch_types.proofs.Sums.{part_le}
use Rattle.dch_frame.proofs.Sizes.{largest_most}
use Rattle.dch_ulphy.specs.Frames.{bits_before}
use Rattle.dch_ulphy.proofs.demultiplexing.demultiplex_frame.Goals as goal

pub channel_cells-cells-requires-clause-room : goal.channel_cells-cells-requires-clause-room
channel_cells-cells-requires-clause-room c =
    let planned = c.args.accepted.now in
    let i : ℕ = c.args.channel in
    let plan : UplinkPlan = c.uplink_plan-plan.result.now in
    let found : c.args.kept.now.combination ≡ Some c.in-Some.combination = sym c.combination.ensures ∙ c.in-Some.is in
    let long : length c.args.kept.now.cells ≡ plan.ndata = c.requires.kept.long c.in-Some.combination found ∙ ap (λ (plan : UplinkPlan). plan.ndata) (sym c.uplink_plan-plan.ensures.value) in
    let room : bits_before plan i + slice_index plan.sent i ≤ plan.ndata = omega (arith, part_le (slice_index plan.sent) i (length planned.config.uplink.side.channels) c.requires.channel, c.uplink_plan-plan.ensures.plan.all_sent) in
    omega (arith, room, long, ap length c.cells.ensures)

pub returns-clause-few : goal.returns-clause-few
returns-clause-few c j v inside frame =
    let planned = c.args.accepted.now in
    let i : ℕ = c.args.channel in
    let plan : UplinkPlan = c.uplink_plan-plan.result.now in
    let good : IsGood planned.config = subst IsGood c.config.ensures.value c.config.ensures.good in
    let room : slice_index plan.sent i ≤ plan.ndata = omega (arith, part_le (slice_index plan.sent) i (length planned.config.uplink.side.channels) c.requires.channel, c.uplink_plan-plan.ensures.plan.all_sent) in
    let few = c.rate_dematch.ensures.few j v inside (ap (λ f. frame_of f (length c.rate_dematch.new.votes) j) c.frames_of-frames.ensures.value ∙ frame) in
    omega (arith, few, room, c.channel_cells-cells.ensures.long, c.uplink_plan-plan.ensures.plan.most, largest_most _ good.uplink.largest)
