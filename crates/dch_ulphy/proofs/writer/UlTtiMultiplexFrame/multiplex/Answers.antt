use Rattle.std.proofs.Common.{◌≡◌, ◌≤◌, ◌<◌, ◌+◌, ◌-◌, ℕ, List, length, arith, rules, ap, ◌∙◌, subst}
use Rattle.std.specs.Prelude.{slice_index}
use Rattle.dch_bits.specs.declared.bit.Trit.{Trit}
use Rattle.dch_types.specs.declared.config.Config.{Config}
use Rattle.dch_types.specs.declared.config.Uplink.{Uplink}
use Rattle.dch_frame.specs.declared.uplink_plan.UplinkPlan.{UplinkPlan}
use Rattle.dch_frame.specs.Uplinks.{IsPlan}
use Rattle.dch_types.proofs.Sums.{part_le}
use Rattle.dch_frame.proofs.Codes.{length_code}
use Rattle.dch_collision.specs.Plans.{plan_at}
use Rattle.dch_ulphy.specs.Frames.{bits_before}
use Rattle.dch_ulphy.proofs.Sent.{multiplexed_none, multiplexed_more}
use Rattle.dch_ulphy.proofs.writer.UlTtiMultiplexFrame.multiplex.Goals as goal

-- the places of a channel lie within the frame
fits : (uplink : Uplink) (c i n at room : ℕ) (plan held : UplinkPlan) → held ≡ plan → IsPlan uplink c held → i < n → n ≡ length uplink.side.channels → at ≡ bits_before plan i → room ≡ plan.ndata → at + slice_index held.sent i ≤ room
fits uplink c i n at room plan held same is inside all place whole =
    let plan_is : IsPlan uplink c plan = subst (IsPlan uplink c) same is in
    let size : slice_index held.sent i ≡ slice_index plan.sent i = ap (λ (plan : UplinkPlan). slice_index plan.sent i) same in
    omega (arith, size, part_le (slice_index plan.sent) i (length uplink.side.channels) (omega (arith, inside, all)), plan_is.all_sent)

pub loop-i-init : goal.loop-i-init
loop-i-init c = multiplexed_none c.args.accepted.now c.args.tti_buffers.now c.args.cfn c.args.combination c.args.out.now

pub slice_bounds-write_channel-end : goal.slice_bounds-write_channel-end
slice_bounds-write_channel-end c =
    let planned = c.args.accepted.now in
    let all = c.len-channels.ensures ∙ ap (λ (config : Config). length config.uplink.side.channels) c.config.ensures.value in
    let room : c.loop-i.at + slice_index c.uplink_plan-plan.result.now.sent c.loop-i.i ≤ length c.loop-i.out =
    fits planned.config.uplink c.args.combination c.loop-i.i c.len-channels.result c.loop-i.at (length c.loop-i.out) (plan_at planned.uplink c.args.combination) c.uplink_plan-plan.result.now c.uplink_plan-plan.ensures.value c.uplink_plan-plan.ensures.plan (omega arith) all c.loop-i.invariant.place (c.loop-i.auto.out ∙ c.requires.room) in
    search (rules, room)

pub overflow_add-end : goal.overflow_add-end
overflow_add-end c =
    let planned = c.args.accepted.now in
    let all = c.len-channels.ensures ∙ ap (λ (config : Config). length config.uplink.side.channels) c.config.ensures.value in
    let room : c.loop-i.at + slice_index c.uplink_plan-plan.result.now.sent c.loop-i.i ≤ length c.loop-i.out =
    fits planned.config.uplink c.args.combination c.loop-i.i c.len-channels.result c.loop-i.at (length c.loop-i.out) (plan_at planned.uplink c.args.combination) c.uplink_plan-plan.result.now c.uplink_plan-plan.ensures.value c.uplink_plan-plan.ensures.plan (omega arith) all c.loop-i.invariant.place (c.loop-i.auto.out ∙ c.requires.room) in
    omega (arith, room, c.requires.small, c.loop-i.auto.out)

pub loop-i-preserved : goal.loop-i-preserved
loop-i-preserved c =
    let planned = c.args.accepted.now in
    let i : ℕ = c.loop-i.i in
    let at : ℕ = c.loop-i.at in
    let n : ℕ = slice_index c.uplink_plan-plan.result.now.sent i in
    let out : List Trit = c.loop-i.out in
    let all = c.len-channels.ensures ∙ ap (λ (config : Config). length config.uplink.side.channels) c.config.ensures.value in
    let room : at + n ≤ length out =
    fits planned.config.uplink c.args.combination i c.len-channels.result at (length out) (plan_at planned.uplink c.args.combination) c.uplink_plan-plan.result.now c.uplink_plan-plan.ensures.value c.uplink_plan-plan.ensures.plan (omega arith) all c.loop-i.invariant.place (c.loop-i.auto.out ∙ c.requires.room) in
    let size = ap (λ (plan : UplinkPlan). slice_index plan.sent i) c.uplink_plan-plan.ensures.value in
    let long : length c.write_channel.new.out ≡ n = c.write_channel.auto.out ∙ length_code out at n room in
    multiplexed_more planned c.args.tti_buffers.now c.args.cfn c.args.combination out c.write_channel.new.out i at n (at + n - at) c.loop-i.invariant size room long c.write_channel.ensures
