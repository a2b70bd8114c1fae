use Rattle.std.proofs.Common.{◌≡◌, ◌*◌, ℕ, length, ap, ◌∙◌, sym, arith}
use Rattle.std.proofs.Math.Nat.{mul-zero}
use Rattle.dch_types.specs.declared.channel.Side.{Side}
use Rattle.dch_types.specs.Parts.{channel_at}
use Rattle.dch_frame.specs.Uplinks.{weight_of}
use Rattle.dch_frame.proofs.Sizes.{largest_most}
use Rattle.dch_frame.proofs.SharesLemmas.{shared_le, nothing_shared}
use Rattle.dch_frame.proofs.uplink_plan.frame.Goals as goal

pub frame_pattern-requires-clause-sent : goal.frame_pattern-requires-clause-sent
frame_pattern-requires-clause-sent c =
    let plan = c.requires.plan in
    let side : Side = c.args.config.now.side in
    let i : ℕ = c.args.channel in
    omega (arith, plan.most, largest_most c.args.config.now.largest c.requires.good.largest, plan.sent i c.requires.channel, shared_le (weight_of side c.args.combination) (length side.channels) c.args.plan.now.ndata i c.requires.channel)

pub frame_pattern-requires-clause-none : goal.frame_pattern-requires-clause-none
frame_pattern-requires-clause-none c none =
    let plan = c.requires.plan in
    let side : Side = c.args.config.now.side in
    let i : ℕ = c.args.channel in
    let weighs : weight_of side c.args.combination i ≡ 0 = ap (λ n. (channel_at side i).rm * n) (sym (plan.before i c.requires.channel) ∙ none) ∙ mul-zero (channel_at side i).rm in
    plan.sent i c.requires.channel ∙ nothing_shared (weight_of side c.args.combination) (length side.channels) c.args.plan.now.ndata i weighs
