use Rattle.std.proofs.Common.{◌≡◌, ◌≤◌, ◌+◌, ◌-◌, ℕ, List, length, arith, ap, ◌∙◌}
use Rattle.dch_bits.specs.declared.bit.Trit.{Trit}
use Rattle.dch_types.specs.declared.config.Config.{Config}
use Rattle.dch_types.specs.Lengths.{frame_bits}
use Rattle.dch_frame.proofs.Codes.{length_code}
use Rattle.dch_dlphy.specs.Frames.{multiplexed_cell}
use Rattle.dch_dlphy.proofs.Sent.{multiplexed_none, multiplexed_more, multiplexed_all}
use Rattle.dch_dlphy.proofs.writer.DlTtiMultiplexFrame.multiplex.Goals as goal

pub loop-i-init : goal.loop-i-init
loop-i-init c = multiplexed_none c.args.accepted.now c.args.tti_buffers.now c.args.cfn c.args.combination c.args.out.now

pub loop-i-preserved : goal.loop-i-preserved
loop-i-preserved c =
    let planned = c.args.accepted.now in
    let i : ℕ = c.loop-i.i in
    let at : ℕ = c.loop-i.at in
    let n : ℕ = c.bits_in_frame.result in
    let out : List Trit = c.loop-i.out in
    let frame : at + n ≤ frame_bits planned.config.downlink = omega (arith, c.bits_in_frame.ensures.inside, c.loop-i.invariant.place) in
    let room : at + n ≤ length out = omega (arith, frame, c.loop-i.auto.out, c.requires.room) in
    let long : length c.write_channel.new.out ≡ n = c.write_channel.auto.out ∙ length_code out at n room in
    multiplexed_more planned c.args.tti_buffers.now c.args.cfn c.args.combination out c.write_channel.new.out i at n (at + n - at) c.loop-i.invariant c.bits_in_frame.ensures.value frame room long c.write_channel.ensures

pub returns : goal.returns
returns c p inside =
    let planned = c.args.accepted.now in
    let at : ℕ = c.loop-i.at in
    let out : List Trit = c.loop-i.out in
    let new : List Trit = c.leave_off.new.cells in
    let all : c.len-channels.result ≡ length planned.config.downlink.side.channels = c.len-channels.ensures ∙ ap (λ (config : Config). length config.downlink.side.channels) c.config.ensures.value in
    let last : c.loop-i.i ≡ length planned.config.downlink.side.channels = omega (arith, all) in
    multiplexed_all planned c.args.tti_buffers.now c.args.cfn c.args.combination out c.split_at_mut-sent.result.0.now c.split_at_mut-sent.result.1.now new c.loop-i.i at p c.loop-i.invariant c.split_at_mut-sent.ensures.value c.split_at_mut-sent.ensures.front_len c.leave_off.ensures (omega (arith, inside))
    ∙ ap (λ i. multiplexed_cell planned c.args.tti_buffers.now c.args.cfn c.args.combination i p) last
