use Rattle.std.proofs.Common.{◌≡◌, ap, ◌∙◌, sym, arith}
use Rattle.dch_types.specs.declared.channel.Trch.{Trch}
use Rattle.dch_types.specs.Parts.{channel_at}
use Rattle.dch_frame.proofs.Sizes.{least-zero, least-more}
use Rattle.dch_frame.proofs.uplink_plan.least_rm.Goals as goal

pub loop-i-init : goal.loop-i-init
loop-i-init c =
    let is : c.channel.result.now.rm ≡ (channel_at c.args.side.now 0).rm = ap (λ (t : Trch). t.rm) c.channel.ensures.value in
    (is ∙ sym (least-zero c.args.side.now), omega (arith, is, (c.requires.channels 0 (omega arith)).most_rm))

pub loop-i-preserved : goal.loop-i-preserved
loop-i-preserved c =
    let is : c.channel-in-loop-i.result.now.rm ≡ (channel_at c.args.side.now c.loop-i.i).rm = ap (λ (t : Trch). t.rm) c.channel-in-loop-i.ensures.value in
    (omega (arith, is, least-more c.args.side.now c.loop-i.i), omega arith)
