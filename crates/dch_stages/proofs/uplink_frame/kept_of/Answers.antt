use Rattle.std.proofs.Common.{◌≤◌, ◌<◌, ◌+◌, ℕ, length, arith, ap, subst}
use Rattle.std.specs.Prelude.{slice_index}
use Rattle.dch_types.specs.Sums.{total}
use Rattle.dch_types.proofs.Sums.{part_le}
use Rattle.dch_types.specs.declared.config.Uplink.{Uplink}
use Rattle.dch_frame.specs.Uplinks.{IsPlan}
use Rattle.dch_frame.specs.declared.uplink_plan.UplinkPlan.{UplinkPlan}
use Rattle.dch_ulphy.specs.Frames.{bits_before}
use Rattle.dch_stages.proofs.uplink_frame.kept_of.Goals as goal

room : (uplink : Uplink) (c i : ℕ) (plan : UplinkPlan) → IsPlan uplink c plan → i < length uplink.side.channels → total (slice_index plan.sent) i + slice_index plan.sent i ≤ plan.ndata
room uplink c i plan is inside =
    let part : total (slice_index plan.sent) i + slice_index plan.sent i ≤ total (slice_index plan.sent) (length uplink.side.channels) = part_le (slice_index plan.sent) i (length uplink.side.channels) inside in
    omega (arith, part, is.all_sent)

pub bits_before-from-requires-clause-small : goal.bits_before-from-requires-clause-small
bits_before-from-requires-clause-small c =
    let is = c.uplink_plan-plan.ensures.plan in
    let part = room c.args.accepted.now.config.uplink c.args.combination c.args.i c.uplink_plan-plan.result.now is c.requires.channel in
    omega (arith, part, is.most, c.most_cells-most.ensures.value, c.most_cells-most.ensures.small)

pub overflow_add-result : goal.overflow_add-result
overflow_add-result c =
    let is = c.uplink_plan-plan.ensures.plan in
    let part = room c.args.accepted.now.config.uplink c.args.combination c.args.i c.uplink_plan-plan.result.now is c.requires.channel in
    omega (arith, part, is.most, c.most_cells-most.ensures.value, c.most_cells-most.ensures.small, c.bits_before-from.ensures)

pub slice_bounds-result-end : goal.slice_bounds-result-end
slice_bounds-result-end c =
    let is = c.uplink_plan-plan.ensures.plan in
    let part = room c.args.accepted.now.config.uplink c.args.combination c.args.i c.uplink_plan-plan.result.now is c.requires.channel in
    omega (arith, part, c.bits_before-from.ensures, ap (λ (p : UplinkPlan). p.ndata) c.uplink_plan-plan.ensures.value, c.requires.whole)

pub returns-clause-inside : goal.returns-clause-inside
returns-clause-inside c =
    let part = room c.args.accepted.now.config.uplink c.args.combination c.args.i c.uplink_plan-plan.result.now c.uplink_plan-plan.ensures.plan c.requires.channel in
    subst (λ (p : UplinkPlan). bits_before p c.args.i + slice_index p.sent c.args.i ≤ p.ndata) c.uplink_plan-plan.ensures.value part
